-- `supplies::nets::net_of` meets its contract: the net behind the first k rows. Assumes nothing.
use Prim.Native.Nat.{◌≤◌, ◌-◌}
use mathlib.Core.List.{◌++◌}
use Rattle.supplies.proofs.Rows.{Nets}
use Rattle.supplies.proofs.nets.net_of.Given as goal

abbrev pub invariant-loop-k : goal.invariant-loop-k
invariant-loop-k l = (l.k ≤ l.rows) × Nets (l.mem.files.now ++ l.mem.area.now) l.nums l.p l.net l.k
