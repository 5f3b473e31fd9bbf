-- `jobindex::put_module` meets its contract.
-- Assumes nothing.
use borrow.Author.Rules.{rules}
use Rattle.jobindex.proofs.put_module.Goals as goal

pub overflow_cast-m-4 : goal.overflow_cast-m-4
overflow_cast-m-4 c = let p = c.requires in search rules

pub overflow_cast-m-5 : goal.overflow_cast-m-5
overflow_cast-m-5 c = let p = c.requires in search rules

pub put_four-requires-2 : goal.put_four-requires-2
put_four-requires-2 c = let p = c.requires in search rules

pub returns : goal.returns
returns c = cc (c.put_four-2.ensures, c.put_four.ensures)
