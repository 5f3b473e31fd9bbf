-- `domainwarnings::not_found_by` meets its contract. Assumes nothing.
use Rattle.domainwarnings.proofs.Tells.{elements_asked, founds, elements_told}
use Rattle.domainwarnings.proofs.not_found_by.Goals as goal

pub domain_elements-n-requires : goal.domain_elements-n-requires
domain_elements-n-requires c = search elements_asked

pub missing_among-requires : goal.missing_among-requires
missing_among-requires c = search founds

pub returns : goal.returns
returns c = search elements_told
