use mathlib.Core.Path.{refl}
use borrow.Author.Tests.{lt-ltb, le-ltb}
use Rattle.out.specs.Emit.{emit1}
use Rattle.out.proofs.emit.Text.byte.Goals as goal

pub returns-then-self : goal.returns-then-self
unfolding emit1
returns-then-self c = (refl, simp (lt-ltb _ _ c.if-self.true))

pub returns-else-self : goal.returns-else-self
unfolding emit1
returns-else-self c = (refl, simp (le-ltb _ _ c.if-self.false))
