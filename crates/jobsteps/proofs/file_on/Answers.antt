-- `jobsteps::file_on` meets its contract.
-- Assumes nothing.
use Rattle.jobsteps.proofs.file_on.Goals as goal

pub returns : goal.returns
returns c = cc
