use native.Mathlib.Omega.{arith}
use Rattle.corrupt.proofs.Domain.{elements_start, elements_end, element_row, element_given, elements_pass, element_walk, elements_stop, elements_on}
use Rattle.corrupt.proofs.marked_paths.Goals as goal

pub loop-i-init : goal.loop-i-init
loop-i-init c = elements_start _ _ _ _ _ _ _ _ _ _ _ _ _ _ _ c.requires.0 _ _ c.start-w.ensures

pub row-e-requires : goal.row-e-requires
row-e-requires c = element_row _ _ _ _ _ _ _ _ _ _ _ _ _ _ _ _ _ _ _ _ _ c.loop-i.invariant c.loop-i-test.true

pub element_module-requires : goal.element_module-requires
element_module-requires c = element_given _ _ _ _ _ _ _ _ _ _ _ _ _ _ _ _ _ _ _ _ _ c.loop-i.invariant

pub loop-i-preserved-in_default : goal.loop-i-preserved-in_default
loop-i-preserved-in_default c = elements_pass _ _ _ _ _ _ _ _ _ _ _ _ _ _ _ _ _ _ _ _ _ c.loop-i.invariant c.loop-i-test.true _ c.row-e.ensures c.in_default.ensures

pub size-elen-requires : goal.size-elen-requires
size-elen-requires c = c.loop-i.invariant.given.memory_small

pub corruptible-requires : goal.corruptible-requires
corruptible-requires c = (element_walk _ _ _ _ _ _ _ _ _ _ _ _ _ _ _ _ _ _ _ _ _ c.loop-i.invariant c.loop-i-test.true _ c.row-e.ensures _ c.in-Some.ensures _ c.size-elen.ensures _ c.element_number-h.ensures, (omega (arith, c.loop-i.auto.tail, c.loop-i.invariant.given.tail_long), (c.loop-i.invariant.turn.ready, c.requires.1)))

pub returns-in_err-w : goal.returns-in_err-w
returns-in_err-w c = elements_stop _ _ _ _ _ _ _ _ _ _ _ _ _ _ _ _ _ _ _ _ _ c.loop-i.invariant c.loop-i-test.true _ c.row-e.ensures _ c.in-Some.ensures _ c.size-elen.ensures _ c.element_number-h.ensures _ _ _ _ _ c.in_err-w.ensures _ c.from_residual.ensures.1

pub loop-i-preserved : goal.loop-i-preserved
loop-i-preserved c = elements_on _ _ _ _ _ _ _ _ _ _ _ _ _ _ _ _ _ _ _ _ _ c.loop-i.invariant c.loop-i-test.true _ c.row-e.ensures _ c.in-Some.ensures _ c.size-elen.ensures _ c.element_number-h.ensures _ _ _ _ _ c.in_ok-w.ensures

pub returns : goal.returns
returns c = elements_end _ _ _ _ _ _ _ _ _ _ _ _ _ _ _ _ _ _ _ _ _ c.loop-i.invariant (omega arith)
