-- `domainlists::put_string` meets its contract. Assumes nothing.
use Rattle.domainlists.proofs.Tables.{strings}
use Rattle.domainlists.proofs.put_string.Goals as goal

pub put_row-requires : goal.put_row-requires
put_row-requires c = search strings

pub returns : goal.returns
returns c = search strings
