use Prim.Native.Nat.{◌-◌}
use lib.ListN.{length}
use Rattle.scope.proofs.Turns.{Along}
use Rattle.scope.proofs.module_along.Given as goal

abbrev pub invariant-loop-part : goal.invariant-loop-part
invariant-loop-part l = Along l.design.index.job.now l.design.index.rows.now l.design.count l.k l.over l.at l.row l.i

abbrev pub decreases-loop-part : goal.decreases-loop-part
decreases-loop-part l = length l.over - l.i
