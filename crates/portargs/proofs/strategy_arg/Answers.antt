-- `portargs::strategy_arg` meets its contract. Assumes nothing.
use Rattle.portargs.proofs.Made.{made}
use Rattle.portargs.proofs.strategy_arg.Goals as goal

pub named-requires : goal.named-requires
named-requires c = search made

pub name-requires : goal.name-requires
name-requires c = search made

pub returns : goal.returns
returns c = search made
