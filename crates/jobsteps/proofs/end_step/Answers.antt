-- `jobsteps::end_step` meets its contract.
-- Assumes nothing.
use Rattle.jobsteps.proofs.Heads.{end_not, end_on}
use Rattle.jobsteps.proofs.end_step.Goals as goal

pub returns-then-not-same : goal.returns-then-not-same
returns-then-not-same c = search end_not

pub returns : goal.returns
returns c = search end_on
