-- `tcl::word::quote_end` meets its contract. The machine's answer from i on, in its state there, is the answer. Assumes nothing.
use Prim.Native.Nat.{◌+◌}
use lib.ListN.{drop}
use Rattle.tcl.specs.Words.{quote_size, quote_state}
use Rattle.tcl.specs.Machines.{Spans}
use Rattle.tcl.proofs.word.quote_end.Given as goal

abbrev pub invariant-loop-i : goal.invariant-loop-i
invariant-loop-i l = Spans quote_state l.s (l.at + quote_size (drop l.at l.s)) l.i l.d
