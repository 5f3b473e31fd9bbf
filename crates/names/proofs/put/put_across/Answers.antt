-- `names::put::put_across` meets its contract. Assumes nothing.
use Rattle.names.proofs.Written.{written}
use Rattle.names.proofs.put.put_across.Goals as goal

pub returns : goal.returns
returns c = search written
