use borrow.Author.Rules.{rules}
use native.Mathlib.Omega.{arith}
use Rattle.supplies.proofs.Tables.{switched_start, switched_long, switched_one, switched_step, switched_done}
use Rattle.supplies.proofs.nets.of_switches.Goals as goal

pub loop-i-init : goal.loop-i-init
loop-i-init c = (search rules, switched_start _ _ _ _)

pub bounds-t-i : goal.bounds-t-i
bounds-t-i c = omega (arith, c.loop-i-test.true, c.requires.switches.sized.count)

pub add_switch-k-requires : goal.add_switch-k-requires
add_switch-k-requires c = search switched_one

pub loop-i-preserved : goal.loop-i-preserved
loop-i-preserved c = (search rules, search switched_step)

pub shape_of-table : goal.shape_of-table
shape_of-table c = search switched_long

pub returns : goal.returns
returns c = search switched_done
