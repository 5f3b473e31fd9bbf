-- `storedtexts::fill1` meets its contract. Assumes nothing.
use Rattle.storedtexts.proofs.Filled.{filled}
use Rattle.storedtexts.proofs.fill1.Goals as goal

pub returns : goal.returns
returns c = search filled
