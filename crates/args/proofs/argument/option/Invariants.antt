-- `args::argument::option` meets its contract. What is left of the words has the answer. Assumes nothing.
use Prim.Native.Nat.{◌-◌}
use mathlib.Core.List.{◌++◌}
use Rattle.tcl.specs.Arguments.{option_of}
use Rattle.args.specs.View.{words_from}
use Rattle.args.proofs.Loops.{Values}
use Rattle.args.proofs.argument.option.Given as goal

abbrev pub invariant-loop-i : goal.invariant-loop-i
invariant-loop-i l = Values (l.mem.files.now ++ l.mem.area.now) l.command.rows.now l.command.n l.key (option_of l.key (words_from (l.mem.files.now ++ l.mem.area.now) l.command.rows.now l.command.n 1)) l.i l.found

abbrev pub decreases-loop-i : goal.decreases-loop-i
decreases-loop-i l = l.command.n - l.i
