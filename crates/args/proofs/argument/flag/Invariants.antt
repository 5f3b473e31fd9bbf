-- `args::argument::flag` meets its contract. What is left of the words has the answer. Assumes nothing.
use Prim.Native.Nat.{◌-◌}
use mathlib.Core.List.{◌++◌}
use Rattle.tcl.specs.Arguments.{has_flag}
use Rattle.args.specs.View.{words_from}
use Rattle.args.proofs.Loops.{Flags}
use Rattle.args.proofs.argument.flag.Given as goal

abbrev pub invariant-loop-i : goal.invariant-loop-i
invariant-loop-i l = Flags (l.mem.files.now ++ l.mem.area.now) l.command.rows.now l.command.n l.key (has_flag l.key (words_from (l.mem.files.now ++ l.mem.area.now) l.command.rows.now l.command.n 1)) l.i

abbrev pub decreases-loop-i : goal.decreases-loop-i
decreases-loop-i l = l.command.n - l.i
