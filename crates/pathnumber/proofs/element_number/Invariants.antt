-- `pathnumber::element_number` meets its contract: the number so far, with what is left behind it, is the number of all. Assumes nothing.
use mathlib.Core.Path.{◌≡◌}
use Rattle.design.specs.Paths.{dotted}
use Rattle.names.specs.Stream.{left_of}
use Rattle.pathnumber.specs.Number.{number}
use Rattle.pathnumber.proofs.element_number.Given as goal

abbrev pub invariant-loop-b : goal.invariant-loop-b
invariant-loop-b l = number l.h (dotted (left_of l.b-iterator)) ≡ number 0 (dotted (left_of l.initial.b-iterator))
