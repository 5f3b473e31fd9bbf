use Rattle.elements.proofs.Turns.{going_less, going_none, going_on, going_unlisted}
use Rattle.elements.proofs.module_by.Goals as goal

pub returns-in_err-down : goal.returns-in_err-down
returns-in_err-down c = rw c.from_residual.ensures (going_none _ _ _ _ _ _ _ _ c.loop-memo.invariant _ _ c.in-Some.ensures _ (rw c.in_err-down.was at c.step_down.ensures))

pub returns-in_err-m : goal.returns-in_err-m
returns-in_err-m c =
    rw c.from_residual-in_err-m.ensures (going_unlisted _ _ _ _ _ _ _ _ c.loop-memo.invariant _ _ c.in-Some.ensures _ _ (rw c.in_ok-down.was at c.step_down.ensures) _ c.part_of.ensures (rw c.in_err-m.was at c.module_named.ensures))

pub loop-memo-smaller : goal.loop-memo-smaller
loop-memo-smaller c =
    going_less _ _ _ _ _ _ _ _ c.loop-memo.invariant _ _ c.in-Some.ensures _ _ (rw c.in_ok-down.was at c.step_down.ensures) _ c.part_of.ensures _ (rw c.in_ok-m.was at c.module_named.ensures) _ c.past_slashes-x-in-Some.ensures

pub loop-memo-preserved : goal.loop-memo-preserved
loop-memo-preserved c =
    going_on _ _ _ _ _ _ _ _ c.loop-memo.invariant _ _ c.in-Some.ensures _ _ (rw c.in_ok-down.was at c.step_down.ensures) _ c.part_of.ensures _ (rw c.in_ok-m.was at c.module_named.ensures) _ c.past_slashes-x-in-Some.ensures
