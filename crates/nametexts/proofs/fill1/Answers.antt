-- `nametexts::fill1` meets its contract. Assumes nothing.
use Rattle.nametexts.proofs.Filled.{filled}
use Rattle.nametexts.proofs.fill1.Goals as goal

pub returns : goal.returns
returns c = search filled
