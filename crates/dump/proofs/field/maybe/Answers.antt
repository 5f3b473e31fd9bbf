-- `dump::field::maybe` meets its contract. Assumes nothing.
use Rattle.dump.proofs.Fielding.{fields}
use Rattle.dump.proofs.field.maybe.Goals as goal

pub returns-in-Not : goal.returns-in-Not
returns-in-Not c = search fields

pub returns-in-Given : goal.returns-in-Given
returns-in-Given c = search fields
