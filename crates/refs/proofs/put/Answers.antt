-- `refs::put` meets its contract. Assumes nothing.
use Rattle.refs.proofs.Written.{written}
use Rattle.refs.proofs.put.Goals as goal

pub returns-then-not-dots : goal.returns-then-not-dots
returns-then-not-dots c = search written

pub returns-in-Same : goal.returns-in-Same
returns-in-Same c = search written
