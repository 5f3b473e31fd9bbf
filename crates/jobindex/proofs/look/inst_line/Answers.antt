-- `jobindex::look::inst_line` meets its contract.
-- Assumes nothing.
use Rattle.jobindex.proofs.Looks.{inst_new}
use Rattle.jobindex.proofs.look.inst_line.Goals as goal

pub returns : goal.returns
returns c = search inst_new
