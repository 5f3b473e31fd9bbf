-- `tcl::join::join` meets its contract. What is left to write at i is the rewriting of what stands from i on. Assumes nothing.
use Prim.Native.Nat.{◌+◌, ◌-◌, ◌≤◌}
use lib.ListN.{drop, length}
use Rattle.tcl.specs.Join.{join, joined, joint}
use Rattle.spans.specs.Writes.{Written}
use Rattle.tcl.specs.Rewrite.{rewrite}
use Rattle.tcl.proofs.join.join.Given as goal

abbrev pub invariant-loop-i : goal.invariant-loop-i
invariant-loop-i l = (l.o ≤ l.at + l.i) × Written l.initial.area l.at (join l.body) (rewrite joint joined 0 (drop l.i l.body)) l.area l.o

abbrev pub decreases-loop-i : goal.decreases-loop-i
decreases-loop-i l = length l.body - l.i
