use borrow.Author.Rules.{rules}
use native.Mathlib.Omega.{arith}
use Rattle.switchwarnings.proofs.States.{all_start, all_one, all_low, all_next, all_done}
use Rattle.switchwarnings.proofs.switch_warnings.Goals as goal

pub loop-i-init : goal.loop-i-init
loop-i-init c = (search rules, (search rules, search all_start))

pub bounds-t-i : goal.bounds-t-i
bounds-t-i c = omega (arith, c.loop-i-test.true, c.requires.0.sized.count)

pub of_switch-told-requires : goal.of_switch-told-requires
of_switch-told-requires c = search (all_one, all_low)

pub loop-i-preserved : goal.loop-i-preserved
loop-i-preserved c = (search rules, (search rules, search all_next))

pub returns : goal.returns
returns c = (search rules, search all_done)
