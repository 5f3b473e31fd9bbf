-- `nametexts::fill3` meets its contract. Assumes nothing.
use Rattle.nametexts.proofs.Filled.{filled}
use Rattle.nametexts.proofs.fill3.Goals as goal

pub returns : goal.returns
returns c = search filled
