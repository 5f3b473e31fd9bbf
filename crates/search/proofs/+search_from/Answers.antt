use Rattle.std.proofs.Common.{refl}
use Rattle.search.proofs.Turns.{call_over, left_below, left_end, left_found, left_on, left_over, left_unlisted, starts}
use Rattle.search.proofs.+search_from.Goals as goal

pub returns-then-calls-eq4096 : goal.returns-then-calls-eq4096
returns-then-calls-eq4096 t c = call_over _ _ _ _ _ _ _ c.if-calls-eq4096.true _

pub returns-then-left-eq0 : goal.returns-then-left-eq0
returns-then-left-eq0 t c = search starts

pub loop-inst-init : goal.loop-inst-init
loop-inst-init t c = search starts

pub returns-then-same : goal.returns-then-same
returns-then-same t c = left_found _ _ _ _ _ _ _ _ _ _ c.loop-inst.invariant _ c.in-Some.ensures _ c.part_of-t.ensures _ c.same.ensures c.if-same.true _ refl _ c.found_at.ensures

pub loop-inst-preserved-in_default-module_named : goal.loop-inst-preserved-in_default-module_named
loop-inst-preserved-in_default-module_named t c = left_unlisted _ _ _ _ _ _ _ _ _ _ c.loop-inst.invariant _ c.in-Some.ensures _ c.part_of-t.ensures _ c.same.ensures c.if-same.false c.in_default-module_named.ensures

pub returns-in_err-f : goal.returns-in_err-f
returns-in_err-f t c = left_over _ _ _ _ _ _ _ _ _ _ c.loop-inst.invariant _ c.in-Some.ensures _ c.part_of-t.ensures _ c.same.ensures c.if-same.false _ c.in-Some-module_named.ensures c.in_err-f.ensures _ _ c.from_residual.ensures.1

pub returns-in-Some-way : goal.returns-in-Some-way
returns-in-Some-way t c = left_below _ _ _ _ _ _ _ _ _ _ c.loop-inst.invariant _ c.in-Some.ensures _ c.part_of-t.ensures _ c.same.ensures c.if-same.false _ c.in-Some-module_named.ensures _ c.in_ok-f.ensures _ c.in-Some-way.is _ refl _ c.below.ensures

pub loop-inst-preserved : goal.loop-inst-preserved
loop-inst-preserved t c = left_on _ _ _ _ _ _ _ _ _ _ c.loop-inst.invariant _ c.in-Some.ensures _ c.part_of-t.ensures _ c.same.ensures c.if-same.false _ c.in-Some-module_named.ensures _ c.in_ok-f.ensures c.in_default-way.is

pub returns : goal.returns
returns t c = left_end _ _ _ _ _ _ _ _ _ _ c.loop-inst.invariant c.in_default.ensures
