-- `joblines::form::lone_conn` meets its contract.
-- Assumes nothing.
use Rattle.text.specs.Cases.{cases}
use Rattle.joblines.proofs.form.lone_conn.Goals as goal

pub returns-then-same : goal.returns-then-same
unfolding Rattle.joblines.specs.Lines.conn_of
returns-then-same c = search cases

pub returns : goal.returns
unfolding Rattle.joblines.specs.Lines.conn_of
returns c = search cases
