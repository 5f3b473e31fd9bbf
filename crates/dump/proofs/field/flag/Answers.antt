-- `dump::field::flag` meets its contract. Assumes nothing.
use Rattle.dump.proofs.Fielding.{fields}
use Rattle.dump.proofs.field.flag.Goals as goal

pub returns-then-b : goal.returns-then-b
returns-then-b c = search fields

pub returns : goal.returns
returns c = search fields
