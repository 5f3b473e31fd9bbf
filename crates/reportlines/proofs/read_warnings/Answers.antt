use mathlib.Core.Path.{refl}
use borrow.Author.Rules.{rules}
use Rattle.reportlines.proofs.Warnings.{lines_start, lines_next, lines_other, lines_done}
use Rattle.reportlines.proofs.read_warnings.Goals as goal

pub loop-i-init : goal.loop-i-init
loop-i-init c = (refl, search lines_start)

pub loop-i-preserved-then-r-lt3 : goal.loop-i-preserved-then-r-lt3
loop-i-preserved-then-r-lt3 c = (search rules, search lines_other)

pub loop-i-preserved : goal.loop-i-preserved
loop-i-preserved c = (search rules, search lines_next)

pub returns : goal.returns
returns c = search lines_done
