-- `joblines::form::conn_form` meets its contract.
-- Assumes nothing.
use Rattle.joblines.proofs.Forms.{conns}
use Rattle.joblines.proofs.form.conn_form.Goals as goal

pub find-a-requires : goal.find-a-requires
find-a-requires c = search conns

pub lone_conn-requires : goal.lone_conn-requires
lone_conn-requires c = search conns

pub returns-then-a-v : goal.returns-then-a-v
returns-then-a-v c = search conns

pub overflow_add-second : goal.overflow_add-second
overflow_add-second c = search conns

pub part-word-requires : goal.part-word-requires
part-word-requires c = search conns

pub same-requires : goal.same-requires
same-requires c = search conns

pub rest-requires : goal.rest-requires
rest-requires c = search conns

pub is_name-requires : goal.is_name-requires
is_name-requires c = search conns

pub returns-then-not-is_name : goal.returns-then-not-is_name
returns-then-not-is_name c = search conns

pub returns-then-same : goal.returns-then-same
returns-then-same c = search conns

pub same-requires-2 : goal.same-requires-2
same-requires-2 c = search conns

pub rest-requires-then-same-2 : goal.rest-requires-then-same-2
rest-requires-then-same-2 c = search conns

pub is_net-requires : goal.is_net-requires
is_net-requires c = search conns

pub returns-then-not-is_net : goal.returns-then-not-is_net
returns-then-not-is_net c = search conns

pub returns-then-same-2 : goal.returns-then-same-2
returns-then-same-2 c = search conns

pub same-requires-3 : goal.same-requires-3
same-requires-3 c = search conns

pub returns-then-not-same : goal.returns-then-not-same
returns-then-not-same c = search conns

pub named_conn-requires : goal.named_conn-requires
named_conn-requires c = search conns

pub returns : goal.returns
returns c = search conns
