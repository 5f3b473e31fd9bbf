use mathlib.Core.Path.{◌∙◌, ap}
use Rattle.design.specs.Paths.{dotted}
use Rattle.names.specs.Stream.{left_of}
use Rattle.pathnumber.specs.Number.{number}
use Rattle.pathnumber.proofs.Numbers.{element_next, element_end}
use Rattle.pathnumber.proofs.element_number.Goals as goal

pub loop-b-preserved : goal.loop-b-preserved
loop-b-preserved c = element_next (left_of c.loop-b.b-iterator) _ _ _ _ _ _ c.loop-b.invariant c.in-Some.ensures.steps c.dot.ensures c.after-h.ensures

pub returns : goal.returns
returns c = element_end (left_of c.loop-b.b-iterator) _ _ c.loop-b.invariant c.in-None.ensures.steps.0 ∙ ap (λ t. number 0 (dotted (left_of t))) c.into_iter-b-iterator.ensures.into_iter_gives
