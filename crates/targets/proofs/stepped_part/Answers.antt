use Rattle.std.proofs.Common.{arith}
use Rattle.targets.proofs.Parted.{take_early, take_long, take_step, take_stop}
use Rattle.targets.proofs.stepped_part.Goals as goal

pub returns-then-b-eq47 : goal.returns-then-b-eq47
returns-then-b-eq47 c = take_early _ _ _ _ _ _ c.loop-own.invariant _ _ c.in-Some.ensures c.if-b-eq47.true (omega arith)

pub returns-then-b-own : goal.returns-then-b-own
returns-then-b-own c = take_stop _ _ _ _ _ _ c.loop-own.invariant _ _ c.in-Some.ensures c.if-b-eq47.false (omega arith) c.if-b-own.true

pub loop-own-preserved : goal.loop-own-preserved
loop-own-preserved c = take_step _ _ _ _ _ _ c.loop-own.invariant _ _ c.in-Some.ensures c.if-b-eq47.false (omega arith) c.if-b-own.false

pub returns : goal.returns
returns c = take_long _ _ _ _ _ _ c.loop-own.invariant _ _ c.in-Some-next.ensures c.if-b-eq47-2.false (omega arith)
