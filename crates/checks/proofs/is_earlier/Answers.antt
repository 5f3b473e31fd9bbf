-- `checks::is_earlier` meets its contract. Assumes nothing.
use Rattle.checks.proofs.Orders.{earlies}
use Rattle.checks.proofs.is_earlier.Goals as goal

pub returns : goal.returns
returns c = search earlies
