-- `refs::put_last` meets its contract. Assumes nothing.
use Rattle.refs.proofs.Written.{written}
use Rattle.refs.proofs.put_last.Goals as goal

pub returns : goal.returns
returns c = search written
