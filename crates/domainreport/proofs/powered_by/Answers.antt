-- `domainreport::powered_by` meets its contract. Assumes nothing.
use Rattle.domainreport.proofs.Reports.{report_asked, fews, line_is_lem}
use Rattle.domainreport.proofs.powered_by.Goals as goal

pub retained_of-k-requires : goal.retained_of-k-requires
retained_of-k-requires c = search report_asked

pub powered_line-requires : goal.powered_line-requires
powered_line-requires c = search fews

pub returns : goal.returns
returns c = search line_is_lem
