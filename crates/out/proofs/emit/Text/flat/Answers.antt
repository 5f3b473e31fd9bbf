use borrow.Author.Rules.{rules}
use Rattle.out.specs.Bytewise.{flat_next, flat_done}
use Rattle.out.proofs.emit.Text.flat.Goals as goal

pub loop-b-preserved : goal.loop-b-preserved
loop-b-preserved c = search (rules, flat_next)

pub returns : goal.returns
returns c = search (rules, flat_done)
