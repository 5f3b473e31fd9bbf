-- `refs::behind` meets its contract. Assumes nothing.
use Rattle.refs.proofs.Firsts.{behinds}
use Rattle.refs.proofs.behind.Goals as goal

pub returns-then-r : goal.returns-then-r
returns-then-r c = search behinds

pub returns : goal.returns
returns c = search behinds
