-- `commands::split::split` meets its contract. The commands are those that are read from i on with the words at hand. Assumes nothing.
use Prim.Native.Nat.{◌-◌}
use lib.ListN.{length}
use Rattle.commands.proofs.Splitting.{Splitting}
use Rattle.commands.proofs.split.split.Given as goal

abbrev pub invariant-loop-i : goal.invariant-loop-i
invariant-loop-i l = Splitting l.text l.at l.initial.words l.words l.n l.i

abbrev pub decreases-loop-i : goal.decreases-loop-i
decreases-loop-i l = length l.text - l.i
