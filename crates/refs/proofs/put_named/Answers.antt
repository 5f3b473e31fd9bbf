-- `refs::put_named` meets its contract. Assumes nothing.
use Rattle.refs.proofs.Written.{written}
use Rattle.refs.proofs.put_named.Goals as goal

pub returns-then-r : goal.returns-then-r
returns-then-r c = search written

pub returns : goal.returns
returns c = search written
