-- `domainreport::below_name` meets its contract. Assumes nothing.
use Rattle.domainreport.proofs.Reports.{below_is}
use Rattle.domainreport.proofs.below_name.Goals as goal

pub returns : goal.returns
returns c = search below_is
