-- `refs::next` meets its contract. Assumes nothing.
use Rattle.refs.proofs.Firsts.{nexts}
use Rattle.refs.proofs.next.Goals as goal

pub returns-then-r : goal.returns-then-r
returns-then-r c = search nexts

pub returns-in-None : goal.returns-in-None
returns-in-None c = search nexts

pub returns-in-Some : goal.returns-in-Some
returns-in-Some c = search nexts
