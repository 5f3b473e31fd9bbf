use mathlib.Core.Path.{refl}
use borrow.Author.Rules.{rules}
use native.Mathlib.Omega.{arith}
use Rattle.switches.proofs.Glue.{glues_one, glues_next, glues_done}
use Rattle.switches.proofs.write.switches_glue.Goals as goal

pub loop-i-init : goal.loop-i-init
loop-i-init c = (search rules, record { keeps = refl })

pub bounds-t-i : goal.bounds-t-i
bounds-t-i c = omega (arith, c.loop-i-test.true, c.requires.sized.count)

pub switch_glue-requires : goal.switch_glue-requires
switch_glue-requires c = search glues_one

pub loop-i-preserved : goal.loop-i-preserved
loop-i-preserved c = (cc, search glues_next)

pub returns : goal.returns
returns c = search glues_done
