use native.Mathlib.Omega.{arith}
use mathlib.Core.Path.{refl}
use borrow.Author.Rules.{rules}
use Rattle.isolation.proofs.Rounds.{strategies_few, strategy_asks, strategy_asked, rounds_start, rounds_end, rounds_stop, rounds_next}
use Rattle.isolation.proofs.round.Goals as goal

pub turn-a-requires : goal.turn-a-requires
turn-a-requires c =
    (c.loop-i.invariant.1.1.turn.ready, (strategy_asks _ _ _ _ _ _ _ c.requires.1 _ c.loop-i-test.true, strategy_asked _ _ _ _ _ _ _ c.requires.1 _ c.loop-i-test.true _))

pub returns-then-a : goal.returns-then-a
returns-then-a c =
    rounds_stop _ _ _ _ _ _ _ c.requires.1 _ _ _ _ _ _ _ _ _ _ _ _ c.loop-i.invariant.1.1 _ c.loop-i-test.true _ _ _ c.turn-a.ensures c.if-a.true

pub loop-i-preserved : goal.loop-i-preserved
loop-i-preserved c =
    (search rules, (search rules, rounds_next _ _ _ _ _ _ _ c.requires.1 _ _ _ _ _ _ _ _ _ _ _ _ c.loop-i.invariant.1.1 _ c.loop-i-test.true _ _ _ c.turn-a.ensures c.if-a.false))

pub returns : goal.returns
returns c =
    rounds_end _ _ _ _ _ _ _ c.requires.1 _ _ _ _ _ _ _ _ _ _ _ _ c.loop-i.invariant.1.1 c.loop-i-test.false

pub loop-i-init : goal.loop-i-init
loop-i-init c = (refl, (refl, rounds_start _ _ _ _ _ _ _ c.requires.1 _ _ _ _ _ _ _ _ c.requires.0))

pub bounds-t-i : goal.bounds-t-i
bounds-t-i c = omega (arith, c.loop-i-test.true, strategies_few _ _ _ _ _ _ _ c.requires.1)
