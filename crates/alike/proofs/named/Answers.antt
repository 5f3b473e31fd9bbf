-- `alike::named` meets its contract. Assumes nothing.
use Rattle.alike.proofs.Values.{values}
use Rattle.alike.proofs.named.Goals as goal

pub returns : goal.returns
returns c = search values
