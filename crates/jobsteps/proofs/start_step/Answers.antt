-- `jobsteps::start_step` meets its contract.
-- Assumes nothing.
use Rattle.jobsteps.proofs.Heads.{start_not, start_on}
use Rattle.jobsteps.proofs.start_step.Goals as goal

pub returns-then-not-is_start : goal.returns-then-not-is_start
returns-then-not-is_start c = search start_not

pub returns : goal.returns
returns c = search start_on
