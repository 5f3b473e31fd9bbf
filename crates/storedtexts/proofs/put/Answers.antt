-- `storedtexts::put` meets its contract. Assumes nothing.
use Rattle.storedtexts.proofs.Filled.{filled}
use Rattle.storedtexts.proofs.put.Goals as goal

pub returns : goal.returns
returns c = search filled
