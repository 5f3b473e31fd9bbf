-- `place::line_at` meets its contract: at each `return` the test that led there says which case holds.
-- Assumes nothing.
use borrow.Author.Tests.{lt-ltb, le-ltb}
use mathlib.Core.Path.{refl}
use Rattle.place.specs.Cut.{cut_at, moved_on}
use Rattle.place.proofs.line_at.Goals as goal

pub returns-then-e-job : goal.returns-then-e-job
unfolding cut_at moved_on
returns-then-e-job c = simp (← c.find_far-e.ensures.is_at, lt-ltb _ _ c.if-e-job.true) (refl, refl)

pub returns : goal.returns
unfolding cut_at moved_on
returns c = simp (← c.find_far-e.ensures.is_at, le-ltb _ _ c.if-e-job.false) (refl, refl)
