-- `job::each_low` meets its contract. The loop's invariant: every byte from `at` on is below 128 when those from i on are.
-- Assumes nothing.
use Prim.Native.Nat.{◌-◌}
use mathlib.Core.Path.{◌≡◌}
use lib.ListN.{length, drop}
use Rattle.text.specs.Classes.{is_ascii}
use Rattle.text.specs.Scan.{all}
use Rattle.job.proofs.each_low.Given as goal

abbrev pub invariant-loop-i : goal.invariant-loop-i
invariant-loop-i l = all is_ascii (drop l.at l.job) ≡ all is_ascii (drop l.i l.job)
