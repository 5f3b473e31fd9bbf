-- `dump::field::maybe_below` meets its contract. Assumes nothing.
use Rattle.dump.proofs.Fielding.{fields}
use Rattle.dump.proofs.field.maybe_below.Goals as goal

pub returns-in-None : goal.returns-in-None
returns-in-None c = search fields

pub returns-in-Some : goal.returns-in-Some
returns-in-Some c = search fields
