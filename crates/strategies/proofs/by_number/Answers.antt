-- `strategies::by_number` meets its contract. Assumes nothing.
use Rattle.strategies.proofs.Turns.{givens}
use Rattle.strategies.proofs.by_number.Goals as goal

pub returns : goal.returns
returns c = search givens
