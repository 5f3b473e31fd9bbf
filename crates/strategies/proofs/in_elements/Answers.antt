-- `strategies::in_elements` meets its contract. Assumes nothing.
use Rattle.strategies.proofs.Turns.{elements_over, elements_line, elements_asked}
use Rattle.strategies.proofs.in_elements.Goals as goal

pub cover_all-a-requires : goal.cover_all-a-requires
cover_all-a-requires c = (c.requires.0, (elements_asked _ _ _ _ _ _ c.args.x _ c.by_number-s.ensures c.requires.1.0, c.requires.1.1))

pub returns-then-a : goal.returns-then-a
returns-then-a c = elements_over _ _ _ _ _ _ c.args.x _ _ _ _ c.by_number-s.ensures _ _ _ c.cover_all-a.ensures c.if-a.true

pub returns : goal.returns
returns c = elements_line _ _ _ _ _ _ c.args.x _ _ _ _ c.by_number-s.ensures _ _ _ c.cover_all-a.ensures c.if-a.false _ _ c.line.ensures
