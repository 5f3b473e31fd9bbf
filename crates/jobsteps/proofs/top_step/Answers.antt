-- `jobsteps::top_step` meets its contract.
-- Assumes nothing.
use Rattle.jobsteps.proofs.Heads.{top_not, top_on}
use Rattle.jobsteps.proofs.top_step.Goals as goal

pub returns-then-not-is_top : goal.returns-then-not-is_top
returns-then-not-is_top c = search top_not

pub returns : goal.returns
returns c = search top_on
