-- `names::put::put_behind` meets its contract. Assumes nothing.
use Rattle.names.proofs.Written.{written}
use Rattle.names.proofs.put.put_behind.Goals as goal

pub returns-then-n : goal.returns-then-n
returns-then-n c = search written

pub returns : goal.returns
returns c = search written
