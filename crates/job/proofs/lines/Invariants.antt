-- `job::lines` meets its contract. The loop's invariant, `Going`: what is left of the job is read to what the whole job is read to.
-- Assumes nothing.
use Prim.Native.Nat.{◌-◌}
use lib.ListN.{length}
use Rattle.job.proofs.Going.{Going}
use Rattle.job.proofs.lines.Given as goal

abbrev pub invariant-loop-line : goal.invariant-loop-line
invariant-loop-line l = Going l.job l.initial.index l.index l.step.at l.n l.step.due l.step.head l.step.opened

abbrev pub decreases-loop-line : goal.decreases-loop-line
decreases-loop-line l = length l.job - l.step.at
