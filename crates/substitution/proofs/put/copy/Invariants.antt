-- `substitution::put::copy` meets its contract. What is left to write is what is left of the bytes. Assumes nothing.
use Prim.Native.Nat.{◌+◌, ◌-◌, ◌≤◌}
use lib.ListN.{drop, length, take}
use Rattle.spans.specs.Writes.{Written}
use Rattle.substitution.specs.Written.{written}
use Rattle.substitution.proofs.put.copy.Given as goal

abbrev pub invariant-loop-k : goal.invariant-loop-k
invariant-loop-k l = (l.n - l.k ≤ length (written l.quoted (drop l.i l.body))) × Written l.initial.area l.o (take l.n (written l.quoted (drop l.at l.body))) (take (l.n - l.k) (written l.quoted (drop l.i l.body))) l.area (l.o + l.k)
