-- `domainwarnings::warn_missing` meets its contract. Assumes nothing.
use mathlib.Core.Path.{refl}
use borrow.Author.Rules.{rules}
use Rattle.domainwarnings.proofs.Tells.{told_none, told_one}
use Rattle.domainwarnings.proofs.warn_missing.Goals as goal

pub returns : goal.returns
returns c = (c.fill2.ensures.0, told_one _ _ _ _ _ _ c.element_module.ensures _ c.is_some.ensures _ _ _ _ _ _ c.fill2.ensures.1 c.stored.ensures (search rules))

pub returns-then-is_some : goal.returns-then-is_some
returns-then-is_some c = (refl, search told_none)
