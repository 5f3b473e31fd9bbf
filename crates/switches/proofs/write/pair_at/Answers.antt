-- `switches::write::pair_at` meets its contract. Assumes nothing.
use Rattle.switches.proofs.Lines.{pair_all}
use Rattle.switches.proofs.write.pair_at.Goals as goal

pub returns : goal.returns
returns c = (cc, pair_all _ _ _ _ _ _ _ _ _ c.put_name-2.ensures.1 c.put.ensures.1 c.put_name.ensures.1 c.row-port.ensures c.row-signal.ensures)
