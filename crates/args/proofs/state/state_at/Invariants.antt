-- `args::state::state_at` meets its contract. What is left of the words has the answer. Assumes nothing.
use Prim.Native.Nat.{◌-◌}
use mathlib.Core.List.{◌++◌}
use Rattle.spans.specs.Span.{strings}
use Rattle.tcl.specs.Arguments.{states}
use Rattle.args.specs.View.{pick}
use Rattle.args.proofs.Keys.{Seeks}
use Rattle.args.proofs.state.state_at.Given as goal

abbrev pub invariant-loop-i : goal.invariant-loop-i
invariant-loop-i l = Seeks (l.mem.files.now ++ l.mem.area.now) l.command.rows.now l.command.n l.one l.two (pick l.k (states l.one l.two (strings (l.mem.files.now ++ l.mem.area.now) l.command.rows.now 0 l.command.n))) l.i l.left

abbrev pub decreases-loop-i : goal.decreases-loop-i
decreases-loop-i l = l.command.n - l.i
