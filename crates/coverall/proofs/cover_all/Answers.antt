use mathlib.Core.Path.{refl}
use native.Mathlib.Omega.{arith}
use borrow.Author.Rules.{rules}
use Rattle.coverall.proofs.Turns.{alls_next, alls}
use Rattle.coverall.proofs.cover_all.Goals as goal

pub loop-i-init : goal.loop-i-init
loop-i-init c = (refl, (refl, search alls))

pub loop-i-preserved : goal.loop-i-preserved
loop-i-preserved c = (search rules, (search rules, alls_next _ _ _ _ _ _ _ _ _ _ _ _ _ _ _ c.loop-i.invariant.1.1 c.loop-i-test.true _ c.row-e.ensures _ _ _ c.cover_one-x.ensures c.if-x.false))

pub cover_one-x-requires : goal.cover_one-x-requires
cover_one-x-requires c = search alls

pub returns-then-x : goal.returns-then-x
returns-then-x c = search alls

pub returns : goal.returns
returns c = search alls
