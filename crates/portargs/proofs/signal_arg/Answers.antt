-- `portargs::signal_arg` meets its contract. Assumes nothing.
use Rattle.portargs.proofs.Made.{made}
use Rattle.portargs.proofs.signal_arg.Goals as goal

pub signal_of-requires : goal.signal_of-requires
signal_of-requires c = search made

pub hier-requires : goal.hier-requires
hier-requires c = search made

pub returns : goal.returns
returns c = search made
