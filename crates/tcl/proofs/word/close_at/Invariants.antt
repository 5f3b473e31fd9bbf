-- `tcl::word::close_at` meets its contract. The machine's answer from i on, in its state there, is the answer. Assumes nothing.
use Prim.Native.Nat.{◌+◌, ◌≤◌}
use lib.ListN.{drop}
use Rattle.tcl.specs.Words.{depth, inside}
use Rattle.tcl.specs.Machines.{Spans}
use Rattle.tcl.proofs.word.close_at.Given as goal

abbrev pub invariant-loop-i : goal.invariant-loop-i
invariant-loop-i l = ((1 ≤ l.d) × ((l.d ≤ l.i + 1) × Spans (depth l.op l.cl) l.s (l.at + inside l.op l.cl (drop l.at l.s)) l.i l.d))
