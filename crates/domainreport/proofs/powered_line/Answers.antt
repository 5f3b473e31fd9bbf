-- `domainreport::powered_line` meets its contract. Assumes nothing.
use Rattle.domainreport.proofs.Reports.{line_without}
use Rattle.domainreport.proofs.powered_line.Goals as goal

pub returns-then-t-eq0 : goal.returns-then-t-eq0
returns-then-t-eq0 c = search line_without
