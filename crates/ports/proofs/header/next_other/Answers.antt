use Rattle.ports.proofs.Turns.{next_here, next_on}
use Rattle.ports.proofs.header.next_other.Goals as goal

pub returns-then-not-outward : goal.returns-then-not-outward
returns-then-not-outward c = next_here _ _ _ _ _ c.loop-port.invariant _ c.in-Some.ensures _ c.outward.ensures c.if-not-outward.true

pub loop-port-preserved : goal.loop-port-preserved
loop-port-preserved c = next_on _ _ _ _ _ c.loop-port.invariant _ c.in-Some.ensures _ c.outward.ensures c.if-not-outward.false
