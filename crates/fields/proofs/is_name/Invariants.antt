-- `fields::is_name` meets its contract. The loop's invariant: w is a NAME when the bytes from i on are bytes of a NAME.
-- Assumes nothing.
use Prim.Native.Nat.{◌≤◌}
use mathlib.Core.Path.{◌≡◌}
use lib.ListN.{length, drop}
use Rattle.text.specs.Classes.{in_name}
use Rattle.text.specs.Scan.{all}
use Rattle.fields.specs.Fields.{is_name}
use Rattle.fields.proofs.is_name.Given as goal

abbrev pub invariant-loop-i : goal.invariant-loop-i
invariant-loop-i l = (l.i ≤ length l.w) × (is_name l.w ≡ all in_name (drop l.i l.w))
