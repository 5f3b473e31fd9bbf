-- `domainreport::unpowered_line` meets its contract. Assumes nothing.
use Rattle.domainreport.proofs.Reports.{bare_is}
use Rattle.domainreport.proofs.unpowered_line.Goals as goal

pub returns : goal.returns
returns c = search bare_is
