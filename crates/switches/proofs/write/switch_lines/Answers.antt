use mathlib.Core.Path.{refl}
use borrow.Author.Rules.{rules}
use native.Mathlib.Omega.{arith}
use Rattle.switches.proofs.Lines.{lines_one, lines_next, lines_done}
use Rattle.switches.proofs.write.switch_lines.Goals as goal

pub loop-i-init : goal.loop-i-init
loop-i-init c = (search rules, record { keeps = refl })

pub bounds-t-i : goal.bounds-t-i
bounds-t-i c = omega (arith, c.loop-i-test.true, c.requires.sized.count)

pub switch_line-requires : goal.switch_line-requires
switch_line-requires c = search lines_one

pub loop-i-preserved : goal.loop-i-preserved
loop-i-preserved c = (cc, search lines_next)

pub returns : goal.returns
returns c = search lines_done
