-- `jobsteps::bytes_step` meets its contract.
-- Assumes nothing.
use Rattle.jobsteps.proofs.Bodies.{bytes_bad, body_short, body_no_lf, body_on}
use Rattle.jobsteps.proofs.bytes_step.Goals as goal

pub returns-in_default : goal.returns-in_default
returns-in_default c = search bytes_bad

pub returns-then-job-body : goal.returns-then-job-body
returns-then-job-body c = search body_short

pub returns-then-job-body-ne10 : goal.returns-then-job-body-ne10
returns-then-job-body-ne10 c = search body_no_lf

pub returns : goal.returns
returns c = search body_on
