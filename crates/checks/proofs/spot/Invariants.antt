-- `checks::spot` meets its contract: its check is not among the first k, nor before them. Assumes nothing.
use Prim.Native.Nat.{◌-◌}
use mathlib.Core.List.{◌++◌}
use Rattle.alike.specs.Strategies.{strategy_at}
use Rattle.checks.proofs.Inserts.{Spots}
use Rattle.checks.proofs.spot.Given as goal

abbrev pub invariant-loop-k : goal.invariant-loop-k
invariant-loop-k l = Spots (strategy_at (l.mem.files.now ++ l.mem.area.now) l.t) l.i l.found l.n l.k
