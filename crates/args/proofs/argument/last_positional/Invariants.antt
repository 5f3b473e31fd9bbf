-- `args::argument::last_positional` meets its contract. What is left of the words has the answer. Assumes nothing.
use Prim.Native.Nat.{◌-◌}
use mathlib.Core.List.{◌++◌}
use Rattle.tcl.specs.Arguments.{last_positional}
use Rattle.args.specs.View.{words_from}
use Rattle.args.proofs.Loops.{Lasts}
use Rattle.args.proofs.argument.last_positional.Given as goal

abbrev pub invariant-loop-i : goal.invariant-loop-i
invariant-loop-i l = Lasts (l.mem.files.now ++ l.mem.area.now) l.command.rows.now l.command.n (last_positional (words_from (l.mem.files.now ++ l.mem.area.now) l.command.rows.now l.command.n 1)) l.i l.found

abbrev pub decreases-loop-i : goal.decreases-loop-i
decreases-loop-i l = l.command.n - l.i
