-- `switches::on::put_one` meets its contract. Assumes nothing.
use Rattle.switches.proofs.Ons.{on_one}
use Rattle.switches.proofs.on.put_one.Goals as goal

pub returns : goal.returns
returns c = (cc, on_one _ _ _ _ _ _ _ _ _ _ c.put-2.ensures.1 c.put_condition.ensures.1 c.put.ensures.1 c.nth-e.ensures)
