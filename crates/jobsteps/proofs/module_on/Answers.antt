-- `jobsteps::module_on` meets its contract.
-- Assumes nothing.
use Rattle.jobsteps.proofs.module_on.Goals as goal

pub returns : goal.returns
returns c = cc
