use mathlib.Core.Path.{refl, sym, ◌∙◌}
use borrow.Author.Rules.{rules}
use Rattle.checks.proofs.Soles.{seen_as, told_none, told_one}
use Rattle.checks.proofs.Loops.{gather_start, gather_row, gather_number, gather_adds, gather_other, gather_one, gather_skip, gathers}
use Rattle.checks.proofs.checks.Goals as goal
use Rattle.checks.proofs.checks.Goals.{in-One+else-not-same_spans, in-More+else-not-has_own}

pub sole_of-own-requires : goal.sole_of-own-requires
sole_of-own-requires c = c.requires.sized

pub loop-k-init : goal.loop-k-init
loop-k-init c = (c.sole_of-own.ensures, gather_start _ _ _ _ _ _)

pub strategy_at-i-requires : goal.strategy_at-i-requires
strategy_at-i-requires c = gather_row _ _ _ _ _ _ c.requires _ _ _ _ c.loop-k.invariant.1 c.loop-k-test.true

pub loop-k-preserved-then-i-s : goal.loop-k-preserved-then-i-s
loop-k-preserved-then-i-s c = (c.loop-k.invariant.0, gather_skip _ _ _ _ _ _ c.requires _ _ _ _ c.loop-k.invariant.1 c.loop-k-test.true _ c.strategy_at-i.ensures c.if-i-s.true)

pub offset_bounds-t-i : goal.offset_bounds-t-i
offset_bounds-t-i c = search (rules, gather_number _ _ _ _ _ _ c.requires _ _ _ _ c.loop-k.invariant.1 c.loop-k-test.true _ c.strategy_at-i.ensures)

pub bounds-t-i : goal.bounds-t-i
bounds-t-i c = gather_number _ _ _ _ _ _ c.requires _ _ _ _ c.loop-k.invariant.1 c.loop-k-test.true _ c.strategy_at-i.ensures

pub loop-k-preserved-in-None : goal.loop-k-preserved-in-None
loop-k-preserved-in-None c = (c.loop-k.invariant.0, gather_other _ _ _ _ _ _ c.requires _ _ _ _ c.loop-k.invariant.1 c.loop-k-test.true _ c.strategy_at-i.ensures _ (told_none _ _ _ _ c.loop-k.invariant.0 _ c.in-None.is) refl)

pub loop-k-preserved-then-not-same_spans : goal.loop-k-preserved-then-not-same_spans
loop-k-preserved-then-not-same_spans c = (seen_as _ _ _ _ c.loop-k.invariant.0 _ c.in-One.is, gather_other _ _ _ _ _ _ c.requires _ _ _ _ c.loop-k.invariant.1 c.loop-k-test.true _ c.strategy_at-i.ensures _ (told_one _ _ _ _ c.loop-k.invariant.0 _ _ c.in-One.is _ _ c.from.ensures c.from-in-One.ensures _ c.same_spans.ensures) c.if-not-same_spans.true-raw)

pub has_own-requires : goal.has_own-requires
has_own-requires c = c.requires.sized

pub loop-k-preserved-then-not-has_own : goal.loop-k-preserved-then-not-has_own
loop-k-preserved-then-not-has_own c = (c.loop-k.invariant.0, gather_other _ _ _ _ _ _ c.requires _ _ _ _ c.loop-k.invariant.1 c.loop-k-test.true _ c.strategy_at-i.ensures _ c.has_own.ensures c.if-not-has_own.true-raw)

pub add-m-requires : goal.add-m-requires
add-m-requires c = gather_adds _ _ _ _ _ _ c.requires _ _ _ _ c.loop-k.invariant.1 c.loop-k-test.true _ c.strategy_at-i.ensures

-- behind the match: the name is that of the one strategy, or the table has it
pub loop-k-preserved : goal.loop-k-preserved
loop-k-preserved c =
    elim c.match-own.branch [
      | in-One+else-not-same_spans w ↦ (seen_as _ _ _ _ c.loop-k.invariant.0 _ (w.in-One.is ∙ sym w.own-is), gather_one _ _ _ _ _ _ c.requires _ _ _ _ c.loop-k.invariant.1 c.loop-k-test.true _ c.strategy_at-i.ensures _ (told_one _ _ _ _ c.loop-k.invariant.0 _ _ w.in-One.is _ _ w.from.ensures w.from-in-One.ensures _ w.same_spans.ensures) w.if-not-same_spans.false-raw _ _ c.add-m.ensures)
      | in-More+else-not-has_own w ↦ (seen_as _ _ _ _ c.loop-k.invariant.0 _ (sym w.own-is), gather_one _ _ _ _ _ _ c.requires _ _ _ _ c.loop-k.invariant.1 c.loop-k-test.true _ c.strategy_at-i.ensures _ w.has_own.ensures w.if-not-has_own.false-raw _ _ c.add-m.ensures)
    ]
