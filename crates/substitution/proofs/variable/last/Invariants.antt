-- `substitution::variable::last` meets its contract. The answer of the first n is that of the first k. Assumes nothing.
use Prim.Native.Nat.{◌≤◌}
use mathlib.Core.List.{◌++◌}
use lib.ListN.{drop, take}
use Rattle.substitution.proofs.Names.{Looks}
use Rattle.substitution.specs.Written.{written}
use Rattle.tcl.specs.Substitution.{lookup}
use Rattle.substitution.specs.Stored.{variables}
use Rattle.substitution.proofs.variable.last.Given as goal

abbrev pub invariant-loop-k : goal.invariant-loop-k
invariant-loop-k l = (l.k ≤ l.vars.n) × Looks (l.mem.files.now ++ l.mem.area.now) l.vars.rows.now (take l.size (written l.quoted (drop l.at l.body))) (lookup (variables (l.mem.files.now ++ l.mem.area.now) l.vars.rows.now l.vars.n) (take l.size (written l.quoted (drop l.at l.body)))) l.k

abbrev pub decreases-loop-k : goal.decreases-loop-k
decreases-loop-k l = l.k
