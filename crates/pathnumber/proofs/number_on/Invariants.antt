-- `pathnumber::number_on` meets its contract: the number so far, with what is left behind it, is the number of all. Assumes nothing.
use Rattle.pathnumber.specs.Number.{number}
use Rattle.pathnumber.proofs.Numbers.{Numbers}
use Rattle.pathnumber.proofs.number_on.Given as goal

abbrev pub invariant-loop-b : goal.invariant-loop-b
invariant-loop-b l = Numbers (number l.initial.x l.p) l.p l.x l.b-index
