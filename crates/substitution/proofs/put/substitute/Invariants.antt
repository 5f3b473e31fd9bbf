-- `substitution::put::substitute` meets its contract. What is left to write at i is what is left of the word, substituted. Assumes nothing.
use Prim.Native.Nat.{◌-◌, ◌≤◌}
use mathlib.Core.List.{◌++◌}
use lib.ListN.{length, take}
use Rattle.spans.specs.Writes.{Written}
use Rattle.substitution.specs.Written.{written}
use Rattle.substitution.proofs.Writing.{left}
use Rattle.tcl.specs.Substitution.{substitute}
use Rattle.substitution.specs.Stored.{variables}
use Rattle.substitution.proofs.put.substitute.Given as goal

abbrev pub invariant-loop-i : goal.invariant-loop-i
invariant-loop-i l = (l.o ≤ l.limit) × Written l.initial.area l.at (substitute (variables (l.files ++ take l.m l.initial.area) l.vars.rows.now l.vars.n) (written l.quoted l.body)) (left (variables (l.files ++ take l.m l.initial.area) l.vars.rows.now l.vars.n) l.quoted l.body l.i) l.area l.o

abbrev pub decreases-loop-i : goal.decreases-loop-i
decreases-loop-i l = length l.body - l.i
