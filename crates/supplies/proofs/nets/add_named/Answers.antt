-- `supplies::nets::add_named` meets its contract. Assumes nothing.
use Rattle.supplies.proofs.Tables.{named_none, named_some}
use Rattle.supplies.proofs.nets.add_named.Goals as goal

pub returns-in-None : goal.returns-in-None
returns-in-None c = search named_none

pub returns-in-Some : goal.returns-in-Some
returns-in-Some c = search named_some
