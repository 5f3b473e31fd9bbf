-- `domainlists::put_below` meets its contract. Assumes nothing.
use Rattle.domainlists.proofs.Tables.{strings}
use Rattle.domainlists.proofs.put_below.Goals as goal

pub below-requires : goal.below-requires
below-requires c = search strings

pub returns : goal.returns
returns c = search strings
