-- `switches::on::put_on` meets its contract. Assumes nothing.
use Rattle.switches.proofs.Ons.{on_off, on_some}
use Rattle.switches.proofs.on.put_on.Goals as goal

pub returns-then-n-eq0 : goal.returns-then-n-eq0
returns-then-n-eq0 c = search on_off

pub returns : goal.returns
returns c = search on_some
