-- `joblines::port_line` meets its contract.
-- Assumes nothing.
use Rattle.joblines.proofs.Looks.{port_may_not}
use Rattle.joblines.proofs.port_line.Goals as goal

pub returns-then-not-may_have : goal.returns-then-not-may_have
returns-then-not-may_have c = search port_may_not
