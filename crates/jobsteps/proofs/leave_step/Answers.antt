-- `jobsteps::leave_step` meets its contract.
-- Assumes nothing.
use Rattle.jobsteps.proofs.Within.{leave_is}
use Rattle.jobsteps.proofs.leave_step.Goals as goal

pub returns : goal.returns
returns c = search leave_is
