-- `args::argument::positional` meets its contract. What is left of the words has the answer. Assumes nothing.
use Prim.Native.Nat.{◌-◌}
use mathlib.Core.List.{◌++◌}
use Rattle.tcl.specs.Arguments.{positionals}
use Rattle.args.specs.View.{words_from, pick}
use Rattle.args.proofs.Loops.{Picks}
use Rattle.args.proofs.argument.positional.Given as goal

abbrev pub invariant-loop-i : goal.invariant-loop-i
invariant-loop-i l = Picks (l.mem.files.now ++ l.mem.area.now) l.command.rows.now l.command.n (pick l.k (positionals (words_from (l.mem.files.now ++ l.mem.area.now) l.command.rows.now l.command.n 1))) l.i l.left

abbrev pub decreases-loop-i : goal.decreases-loop-i
decreases-loop-i l = l.command.n - l.i
