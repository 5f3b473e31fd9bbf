use Prim.Native.Nat.{◌-◌}
use Rattle.ports.proofs.Turns.{Going}
use Rattle.ports.proofs.next_fresh.Given as goal

abbrev pub invariant-loop-own : goal.invariant-loop-own
invariant-loop-own l = Going l.index.job.now l.index.rows.now l.k l.at l.p l.h l.d l.e l.i

abbrev pub decreases-loop-own : goal.decreases-loop-own
decreases-loop-own l = l.e - l.i
