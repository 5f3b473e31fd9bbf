-- `commands::resolve::resolve` meets its contract. What the words come to that are resolved and those that are left is what all come to. Assumes nothing.
use mathlib.Core.List.{◌++◌}
use lib.ListN.{take}
use Rattle.commands.proofs.Resolving.{Resolving, Room}
use Rattle.substitution.specs.Stored.{variables}
use Rattle.commands.proofs.resolve.resolve.Given as goal

abbrev pub invariant-loop-k : goal.invariant-loop-k
invariant-loop-k l = Room l.files l.initial.area l.initial.words l.limit l.n l.o × Resolving l.files l.text (variables (l.files ++ take l.at l.initial.area) l.vars.rows.now l.vars.n) l.initial.area l.area l.initial.words l.words l.at l.n l.k l.o
