-- `supplies::nets::created` meets its contract: what is put and what is left are the created nets. Assumes nothing.
use Prim.Native.Nat.{◌≤◌, ◌-◌}
use mathlib.Core.List.{◌++◌}
use Rattle.supplies.proofs.Tables.{Created}
use Rattle.supplies.proofs.nets.created.Given as goal

abbrev pub invariant-loop-i : goal.invariant-loop-i
invariant-loop-i l = (l.i ≤ l.t.n) × Created (l.mem.files.now ++ l.mem.area.now) l.t l.initial.table l.table l.i
