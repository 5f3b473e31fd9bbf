-- `supplies::nets::name_of` meets its contract. Assumes nothing.
use Rattle.supplies.proofs.Rows.{name_known}
use Rattle.supplies.proofs.nets.name_of.Goals as goal

pub returns : goal.returns
returns c = search name_known
