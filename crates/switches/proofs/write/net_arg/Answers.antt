-- `switches::write::net_arg` meets its contract. Assumes nothing.
use Rattle.switches.proofs.Glue.{arg_whole, arg_net}
use Rattle.switches.proofs.write.net_arg.Goals as goal

pub nth_below-requires : goal.nth_below-requires
nth_below-requires c = search arg_whole

pub returns : goal.returns
returns c = search arg_net
