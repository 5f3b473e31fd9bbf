-- `supplies::nets::of_ports` meets its contract: what is there and what is left come to the answer. Assumes nothing.
use Prim.Native.Nat.{◌≤◌, ◌-◌}
use mathlib.Core.List.{◌++◌}
use Rattle.store.specs.Rows.{rows_in}
use Rattle.supplies.proofs.Tables.{Ported}
use Rattle.supplies.proofs.nets.of_ports.Given as goal

abbrev pub invariant-loop-i : goal.invariant-loop-i
invariant-loop-i l = (l.i ≤ l.t.n) × Ported (l.mem.files.now ++ l.mem.area.now) (rows_in l.nums l.rows) l.t l.initial.table l.n l.table l.k l.i
