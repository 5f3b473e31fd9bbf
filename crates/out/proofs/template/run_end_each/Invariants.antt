-- `out::template::run_end_each` meets its contract. Assumes nothing.
use Rattle.text.specs.Scan.{before}
use Rattle.out.specs.Fill.{is_brace}
use Prim.Native.Nat.{◌+◌}
use mathlib.Core.Path.{◌≡◌}
use lib.ListN.{drop}
use Rattle.out.proofs.template.run_end_each.Given as goal

abbrev pub invariant-loop-i : goal.invariant-loop-i
invariant-loop-i l = (l.at + before is_brace (drop l.at l.t) ≡ l.i + before is_brace (drop l.i l.t))
