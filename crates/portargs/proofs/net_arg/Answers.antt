-- `portargs::net_arg` meets its contract. Assumes nothing.
use Rattle.portargs.proofs.Made.{made}
use Rattle.portargs.proofs.net_arg.Goals as goal

pub net-requires : goal.net-requires
net-requires c = search made

pub wrapped-requires : goal.wrapped-requires
wrapped-requires c = search made

pub returns : goal.returns
returns c = search made
