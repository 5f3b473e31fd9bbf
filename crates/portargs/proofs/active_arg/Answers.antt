-- `portargs::active_arg` meets its contract. Assumes nothing.
use Rattle.portargs.proofs.Made.{made}
use Rattle.portargs.proofs.active_arg.Goals as goal

pub low_of-requires : goal.low_of-requires
low_of-requires c = search made

pub fixed-requires : goal.fixed-requires
fixed-requires c = search made

pub returns : goal.returns
returns c = search made
