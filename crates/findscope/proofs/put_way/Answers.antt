-- `findscope::put_way` meets its contract. Assumes nothing.
use borrow.Author.Rules.{rules}
use Rattle.findscope.proofs.Turns.{writing}
use Rattle.findscope.proofs.put_way.Goals as goal

pub returns-then-i-ge33 : goal.returns-then-i-ge33
returns-then-i-ge33 c = (search rules, search writing)

pub loop-i-preserved : goal.loop-i-preserved
loop-i-preserved c = (search rules, search writing)

pub returns : goal.returns
returns c = (search rules, search writing)
