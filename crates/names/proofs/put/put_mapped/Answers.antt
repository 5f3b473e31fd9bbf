-- `names::put::put_mapped` meets its contract. Assumes nothing.
use Rattle.names.proofs.Written.{written}
use Rattle.names.proofs.put.put_mapped.Goals as goal

pub returns : goal.returns
returns c = search written
