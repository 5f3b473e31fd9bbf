-- `statecmds::put_states` meets its contract. The states passed have been put, where they are wanted. Assumes nothing.
use mathlib.Core.List.{◌++◌}
use Rattle.spans.specs.Span.{strings}
use Rattle.tcl.specs.Arguments.{states}
use Rattle.statecmds.specs.Puts.{Putting}
use Rattle.statecmds.proofs.put_states.Given as goal

abbrev pub invariant-loop-k : goal.invariant-loop-k
invariant-loop-k l = Putting (l.mem.files.now ++ l.mem.area.now) l.command.rows.now l.command.n (states l.one l.two (strings (l.mem.files.now ++ l.mem.area.now) l.command.rows.now 0 l.command.n)) l.want l.initial.nums l.at l.nums l.k l.o
