-- `supplies::nets::of_switches` meets its contract: what is there and what is left come to the answer. Assumes nothing.
use Prim.Native.Nat.{◌≤◌, ◌-◌}
use mathlib.Core.List.{◌++◌}
use Rattle.supplies.proofs.Tables.{Switched}
use Rattle.supplies.proofs.nets.of_switches.Given as goal

abbrev pub invariant-loop-i : goal.invariant-loop-i
invariant-loop-i l = (l.i ≤ l.t.n) × Switched (l.mem.files.now ++ l.mem.area.now) l.t l.initial.table l.n l.table l.k l.i
