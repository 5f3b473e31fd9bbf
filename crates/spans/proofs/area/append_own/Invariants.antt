-- `spans::area::append_own` meets its contract. What is read stands before o, so it is as it was at entry. Assumes nothing.
use Rattle.std.proofs.Common.{◌+◌, ◌-◌, drop, take}
use Rattle.spans.specs.Writes.{Written}
use Rattle.spans.proofs.area.append_own.Given as goal

abbrev pub invariant-loop-i : goal.invariant-loop-i
invariant-loop-i l = Written l.initial.area l.o (take l.n (drop l.a l.initial.area)) (take (l.n - l.i) (drop (l.a + l.i) l.initial.area)) l.area (l.o + l.i)
