-- `joblines::form::named_conn` meets its contract.
-- Assumes nothing.
use Rattle.joblines.proofs.Forms.{nameds}
use Rattle.joblines.proofs.form.named_conn.Goals as goal

pub find-b-requires : goal.find-b-requires
find-b-requires c = search nameds

pub returns-then-b-v : goal.returns-then-b-v
returns-then-b-v c = search nameds

pub overflow_add-net : goal.overflow_add-net
overflow_add-net c = search nameds

pub overflow_sub-len : goal.overflow_sub-len
overflow_sub-len c = search nameds

pub part-requires : goal.part-requires
part-requires c = search nameds

pub is_name-requires : goal.is_name-requires
is_name-requires c = search nameds

pub returns-then-not-is_name : goal.returns-then-not-is_name
returns-then-not-is_name c = search nameds

pub rest-requires : goal.rest-requires
rest-requires c = search nameds

pub is_net-requires : goal.is_net-requires
is_net-requires c = search nameds

pub returns-then-not-is_net : goal.returns-then-not-is_net
returns-then-not-is_net c = search nameds

pub returns : goal.returns
returns c = search nameds
