-- `conditions::behind` meets its contract: what is left is the answer. Assumes nothing.
use Prim.Native.Nat.{◌-◌}
use lib.ListN.{drop}
use mathlib.Core.List.{◌++◌}
use Rattle.names.specs.Name.{name_of}
use Rattle.conditions.proofs.Words.{Drops}
use Rattle.conditions.proofs.behind.Given as goal

abbrev pub invariant-loop-k : goal.invariant-loop-k
invariant-loop-k l = Drops (l.mem.files.now ++ l.mem.area.now) (drop l.n (name_of (l.mem.files.now ++ l.mem.area.now) l.initial.x)) l.n l.x l._k
