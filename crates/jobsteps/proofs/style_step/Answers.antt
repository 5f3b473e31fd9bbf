-- `jobsteps::style_step` meets its contract.
-- Assumes nothing.
use Rattle.jobsteps.proofs.Heads.{style_other, style_not, style_on}
use Rattle.jobsteps.proofs.style_step.Goals as goal

pub returns-then-not-starts_with : goal.returns-then-not-starts_with
returns-then-not-starts_with c = search style_other

pub returns-in_default : goal.returns-in_default
returns-in_default c = search style_not

pub returns : goal.returns
returns c = search style_on
