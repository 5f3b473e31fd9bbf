-- `scopes::target::up` meets its contract. Assumes nothing.
use mathlib.Core.List.{◌++◌}
use lib.ListN.{length}
use Rattle.spans.specs.Span.{bytes}
use Rattle.scopes.proofs.Targets.{Passed}
use Rattle.scopes.proofs.target.up.Given as goal

abbrev pub invariant-loop-b : goal.invariant-loop-b
invariant-loop-b l = Passed (l.mem.files.now ++ l.mem.area.now) l.initial.x l.i l.last l.x

abbrev pub decreases-loop-b : goal.decreases-loop-b
decreases-loop-b l = length (bytes (l.mem.files.now ++ l.mem.area.now) l.x)
