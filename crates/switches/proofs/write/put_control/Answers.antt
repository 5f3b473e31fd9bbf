-- `switches::write::put_control` meets its contract. Assumes nothing.
use Rattle.switches.proofs.Glue.{signal_all}
use Rattle.switches.proofs.write.put_control.Goals as goal

pub put_on-requires : goal.put_on-requires
put_on-requires c = c.requires

pub put_on-requires-2 : goal.put_on-requires-2
put_on-requires-2 c = c.requires

pub returns : goal.returns
returns c = (cc, signal_all _ _ _ _ _ _ _ _ _ _ _ c.fill4.ensures.1 c.put_on.ensures.1 c.fill4-2.ensures.1 c.put_on-2.ensures.1 c.fill4-3.ensures.1)
