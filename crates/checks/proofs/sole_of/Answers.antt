-- `checks::sole_of` meets its contract. Assumes nothing.
use Rattle.checks.proofs.Soles.{passes}
use Rattle.checks.proofs.sole_of.Goals as goal

pub returns-in-Some-one : goal.returns-in-Some-one
returns-in-Some-one c = search passes
