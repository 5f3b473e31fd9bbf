-- `checks::sole_of` meets its contract: of the strategies passed at most one is of the domain. Assumes nothing.
use Prim.Native.Nat.{◌-◌}
use mathlib.Core.List.{◌++◌}
use Rattle.checks.proofs.Soles.{Passes}
use Rattle.checks.proofs.sole_of.Given as goal

abbrev pub invariant-loop-j : goal.invariant-loop-j
invariant-loop-j l = Passes (l.mem.files.now ++ l.mem.area.now) l.t l.domain l.one l.j
