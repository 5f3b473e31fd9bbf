-- `substitution::written::name_run` meets its contract. What is left of the name at i is the rest of it. Assumes nothing.
use Prim.Native.Nat.{◌-◌}
use lib.ListN.{length}
use Rattle.substitution.proofs.Runs.{Naming}
use Rattle.substitution.proofs.written.name_run.Given as goal

abbrev pub invariant-loop-i : goal.invariant-loop-i
invariant-loop-i l = Naming l.quoted l.body l.at l.n l.i

abbrev pub decreases-loop-i : goal.decreases-loop-i
decreases-loop-i l = length l.body - l.i
