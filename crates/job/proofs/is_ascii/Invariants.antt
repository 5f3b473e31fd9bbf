-- `job::is_ascii` meets its contract. The loop's invariant: every byte is below 128 when those from i on are.
-- Assumes nothing.
use Prim.Native.Nat.{◌≤◌, ◌-◌}
use mathlib.Core.Path.{◌≡◌}
use lib.ListN.{length, drop}
use Rattle.text.specs.Classes.{is_ascii}
use Rattle.text.specs.Scan.{all}
use Rattle.job.proofs.is_ascii.Given as goal

abbrev pub invariant-loop-i : goal.invariant-loop-i
invariant-loop-i l = (l.i ≤ length l.job) × (all is_ascii l.job ≡ all is_ascii (drop l.i l.job))

abbrev pub decreases-loop-i : goal.decreases-loop-i
decreases-loop-i l = length l.job - l.i
