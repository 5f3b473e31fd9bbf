-- `portcmds::connect_supply_net` meets its contract. Assumes nothing.
use Rattle.portcmds.proofs.Laws.{ports}
use Rattle.portcmds.proofs.connect_supply_net.Goals as goal

pub narrow-requires : goal.narrow-requires
narrow-requires c = search ports

pub or_empty-requires : goal.or_empty-requires
or_empty-requires c = search ports

pub returns : goal.returns
returns c = search ports
