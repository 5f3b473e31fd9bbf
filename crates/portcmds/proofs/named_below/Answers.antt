-- `portcmds::named_below` meets its contract. Assumes nothing.
use Rattle.portcmds.proofs.Laws.{ports}
use Rattle.portcmds.proofs.named_below.Goals as goal

pub narrow-requires : goal.narrow-requires
narrow-requires c = search ports

pub returns : goal.returns
returns c = search ports
