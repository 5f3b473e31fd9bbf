-- `domainlists::domain_elements` meets its contract. Assumes nothing.
use Rattle.domainlists.proofs.Tables.{domains}
use Rattle.domainlists.proofs.domain_elements.Goals as goal

pub put_below-n-requires : goal.put_below-n-requires
put_below-n-requires c = search domains

pub put_string-requires : goal.put_string-requires
put_string-requires c = search domains

pub overflow_add-result : goal.overflow_add-result
overflow_add-result c = search domains

pub returns-then-d : goal.returns-then-d
returns-then-d c = search domains

pub returns : goal.returns
returns c = search domains
