-- `processes::put_head` meets its contract. Assumes nothing.
use borrow.Author.Rules.{rules}
use Rattle.processes.proofs.Written.{heads}
use Rattle.processes.proofs.put_head.Goals as goal

pub returns : goal.returns
returns c = (search rules, search heads)
