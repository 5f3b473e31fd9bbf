-- `checks::is_same` meets its contract. Assumes nothing.
use Rattle.checks.proofs.Orders.{sames}
use Rattle.checks.proofs.is_same.Goals as goal

pub returns : goal.returns
returns c = search sames
