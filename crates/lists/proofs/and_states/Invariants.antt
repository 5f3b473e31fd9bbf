-- `lists::and_states` meets its contract. The states that are left have the answer. Assumes nothing.
use mathlib.Core.List.{◌++◌}
use Rattle.spans.specs.Span.{strings}
use Rattle.tcl.specs.Arguments.{states}
use Rattle.lists.proofs.Laws.{Left}
use Rattle.lists.proofs.and_states.Given as goal

abbrev pub invariant-loop-k : goal.invariant-loop-k
invariant-loop-k l = Left l.command.n (states l.one l.two (strings (l.mem.files.now ++ l.mem.area.now) l.command.rows.now 0 l.command.n)) l.initial.t l.k l.t
