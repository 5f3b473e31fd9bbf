-- `portcmds::create_supply_port` meets its contract. Assumes nothing.
use Rattle.portcmds.proofs.Laws.{ports}
use Rattle.portcmds.proofs.create_supply_port.Goals as goal

pub returns-then-b-ge-MOST_PORTS : goal.returns-then-b-ge-MOST_PORTS
returns-then-b-ge-MOST_PORTS c = search ports

pub returns : goal.returns
returns c = search ports
