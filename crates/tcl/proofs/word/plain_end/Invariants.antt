-- `tcl::word::plain_end` meets its contract. Assumes nothing.
use Prim.Native.Nat.{◌+◌}
use mathlib.Core.Path.{◌≡◌}
use lib.ListN.{drop}
use Rattle.text.specs.Scan.{before}
use Rattle.text.specs.Classes.{ends_plain}
use Rattle.tcl.proofs.word.plain_end.Given as goal

abbrev pub invariant-loop-i : goal.invariant-loop-i
invariant-loop-i l = l.at + before ends_plain (drop l.at l.s) ≡ l.i + before ends_plain (drop l.i l.s)
