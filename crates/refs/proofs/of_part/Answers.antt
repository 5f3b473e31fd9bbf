-- `refs::of_part` meets its contract. Assumes nothing.
use Rattle.refs.proofs.Firsts.{starts}
use Rattle.refs.proofs.of_part.Goals as goal

pub returns-then-len-eq0 : goal.returns-then-len-eq0
returns-then-len-eq0 c = search starts

pub returns-then-job-at : goal.returns-then-job-at
returns-then-job-at c = search starts

pub returns : goal.returns
returns c = search starts
