-- `refs::of_last` meets its contract. Assumes nothing.
use Rattle.refs.proofs.Firsts.{behinds}
use Rattle.refs.proofs.of_last.Goals as goal

pub returns-in-None : goal.returns-in-None
returns-in-None c = search behinds

pub returns-in-Some : goal.returns-in-Some
returns-in-Some c = search behinds
