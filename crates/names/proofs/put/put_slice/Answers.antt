-- `names::put::put_slice` meets its contract. Assumes nothing.
use Rattle.names.proofs.Written.{written}
use Rattle.names.proofs.put.put_slice.Goals as goal

pub returns-in-Same : goal.returns-in-Same
returns-in-Same c = search written
