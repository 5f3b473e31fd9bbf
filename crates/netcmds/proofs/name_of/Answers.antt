-- `netcmds::name_of` meets its contract. Assumes nothing.
use Rattle.netcmds.specs.Nets.{named_is}
use Rattle.netcmds.proofs.name_of.Goals as goal

pub returns : goal.returns
returns c = named_is _ _ _ _ _ c.from.ensures c.from-2.ensures c.scoped.ensures
