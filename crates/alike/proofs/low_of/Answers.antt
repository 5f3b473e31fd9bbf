-- `alike::low_of` meets its contract. Assumes nothing.
use Rattle.alike.proofs.Values.{values}
use Rattle.alike.proofs.low_of.Goals as goal

pub returns : goal.returns
returns c = search values
