-- `joined::join_files` meets its contract. Assumes nothing.
use Prim.Native.Nat.{◌-◌}
use Rattle.joined.proofs.Turns.{Going}
use Rattle.joined.proofs.join_files.Given as goal

abbrev pub invariant-loop-k : goal.invariant-loop-k
invariant-loop-k l = Going l.job l.initial.files l.initial.nums l.files l.nums l.n l.k l.o
