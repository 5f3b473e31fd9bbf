-- `storedtexts::fill2` meets its contract. Assumes nothing.
use Rattle.storedtexts.proofs.Filled.{filled}
use Rattle.storedtexts.proofs.fill2.Goals as goal

pub returns : goal.returns
returns c = search filled
