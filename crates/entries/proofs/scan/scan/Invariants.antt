-- `entries::scan::scan` meets its contract. The machine's answer from i on, in its state there, is the answer. Assumes nothing.
use Prim.Native.Nat.{◌+◌, ◌-◌, ◌≤◌}
use lib.ListN.{drop, length}
use Rattle.tcl.specs.Join.{join}
use Rattle.tcl.specs.Words.{span}
use Rattle.entries.specs.Raw.{raw, state_of}
use Rattle.entries.proofs.Scans.{Scans}
use Rattle.entries.proofs.scan.scan.Given as goal

abbrev pub invariant-loop-i : goal.invariant-loop-i
invariant-loop-i l = (l.i ≤ length l.v) × ((1 ≤ l.d) × ((l.d ≤ l.i + 1) × Scans (state_of l.k) l.v (l.at + raw (span (state_of l.k) 1 (join (drop l.at l.v))) (drop l.at l.v)) l.i l.d))

abbrev pub decreases-loop-i : goal.decreases-loop-i
decreases-loop-i l = length l.v - l.i
