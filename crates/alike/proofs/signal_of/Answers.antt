-- `alike::signal_of` meets its contract. Assumes nothing.
use Rattle.alike.proofs.Values.{values}
use Rattle.alike.proofs.signal_of.Goals as goal

pub returns : goal.returns
returns c = search values
