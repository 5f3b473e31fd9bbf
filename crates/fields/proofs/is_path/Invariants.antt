-- `fields::is_path` meets its contract. The loop's invariant: w is a PATH when what stands from i on is one.
-- Assumes nothing.
use Prim.Native.Nat.{◌≤◌, ◌-◌}
use mathlib.Core.Path.{◌≡◌}
use lib.ListN.{length, drop}
use Rattle.fields.specs.Fields.{is_path}
use Rattle.fields.proofs.is_path.Given as goal

abbrev pub invariant-loop-i : goal.invariant-loop-i
invariant-loop-i l = (l.i ≤ length l.w) × (is_path l.w ≡ is_path (drop l.i l.w))

abbrev pub decreases-loop-i : goal.decreases-loop-i
decreases-loop-i l = length l.w - l.i
