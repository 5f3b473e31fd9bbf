-- `checks::has_own` meets its contract: none of the strategies passed is it. Assumes nothing.
use Prim.Native.Nat.{◌-◌}
use mathlib.Core.List.{◌++◌}
use Rattle.checks.proofs.Owns.{Seeks}
use Rattle.checks.proofs.has_own.Given as goal

abbrev pub invariant-loop-j : goal.invariant-loop-j
invariant-loop-j l = Seeks (l.mem.files.now ++ l.mem.area.now) l.t l.name l.domain l.j
