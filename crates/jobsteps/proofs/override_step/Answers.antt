-- `jobsteps::override_step` meets its contract.
-- Assumes nothing.
use Rattle.jobsteps.proofs.Heads.{override_not, override_on}
use Rattle.jobsteps.proofs.override_step.Goals as goal

pub returns-then-not-starts_with : goal.returns-then-not-starts_with
returns-then-not-starts_with c = search override_not

pub returns : goal.returns
returns c = search override_on
