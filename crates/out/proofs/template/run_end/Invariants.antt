-- `out::template::run_end` meets its contract. Assumes nothing.
use Rattle.text.specs.Scan.{before}
use Rattle.out.specs.Fill.{is_brace}
use Prim.Native.Nat.{◌+◌, ◌≤◌, ◌-◌}
use mathlib.Core.Path.{◌≡◌}
use lib.ListN.{length, drop}
use Rattle.out.proofs.template.run_end.Given as goal

abbrev pub invariant-loop-i : goal.invariant-loop-i
invariant-loop-i l = (l.i ≤ length l.t) × (l.at + before is_brace (drop l.at l.t) ≡ l.i + before is_brace (drop l.i l.t))

abbrev pub decreases-loop-i : goal.decreases-loop-i
decreases-loop-i l = length l.t - l.i
