-- `names::put::put_formed` meets its contract. Assumes nothing.
use Rattle.names.proofs.Written.{written}
use Rattle.names.proofs.put.put_formed.Goals as goal

pub returns-then-stands : goal.returns-then-stands
returns-then-stands c = search written

pub returns : goal.returns
returns c = search written
