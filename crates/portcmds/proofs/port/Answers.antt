-- `portcmds::port` meets its contract. Assumes nothing.
use Rattle.portcmds.proofs.Laws.{ports}
use Rattle.portcmds.proofs.port.Goals as goal

pub as_maybe-requires : goal.as_maybe-requires
as_maybe-requires c = search ports

pub returns : goal.returns
returns c = search ports
