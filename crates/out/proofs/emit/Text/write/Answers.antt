use Rattle.out.specs.Marks.{fills_start, fills_turn, fills_less, fills_done}
use borrow.Author.Rules.{rules}
use Rattle.out.proofs.emit.Text.write.Goals as goal

pub loop-i-init : goal.loop-i-init
loop-i-init c = search (rules, fills_start)

pub loop-i-smaller : goal.loop-i-smaller
loop-i-smaller c = search (rules, fills_less)

pub loop-i-preserved : goal.loop-i-preserved
loop-i-preserved c = search (rules, fills_turn)

pub returns : goal.returns
returns c = search (rules, fills_done)
