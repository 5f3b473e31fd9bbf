-- `substitution::variable::is_written` meets its contract: whether what is left of the one is what is left of the other. Assumes nothing.
use mathlib.Core.List.{◌++◌}
use lib.ListN.{drop, length, take}
use Rattle.substitution.proofs.Names.{Named}
use Rattle.substitution.specs.Written.{written}
use Rattle.spans.specs.Span.{bytes}
use Rattle.text.specs.Compare.{same}
use Rattle.substitution.proofs.variable.is_written.Given as goal

abbrev pub invariant-loop-b : goal.invariant-loop-b
invariant-loop-b l = Named l.quoted l.body (l.mem.files.now ++ l.mem.area.now) (same (take l.size (written l.quoted (drop l.at l.body))) (bytes (l.mem.files.now ++ l.mem.area.now) l.initial.x)) l.i l.left l.x

abbrev pub decreases-loop-b : goal.decreases-loop-b
decreases-loop-b l = length (bytes (l.mem.files.now ++ l.mem.area.now) l.x)
