-- `portargs::port_arg` meets its contract. Assumes nothing.
use Rattle.portargs.proofs.Made.{made}
use Rattle.portargs.proofs.port_arg.Goals as goal

pub port-requires : goal.port-requires
port-requires c = search made

pub wrapped-requires : goal.wrapped-requires
wrapped-requires c = search made

pub returns : goal.returns
returns c = search made
