-- `switchwarnings::word_warning` meets its contract. Assumes nothing.
use mathlib.Core.Path.{refl}
use borrow.Author.Rules.{rules}
use Rattle.switchwarnings.proofs.Words.{warn_known, warn_number, warn_unknown, more_fits}
use Rattle.switchwarnings.proofs.word_warning.Goals as goal

pub returns-then-r-ne0 : goal.returns-then-r-ne0
returns-then-r-ne0 c = (refl, search warn_known)

pub returns-then-is_number : goal.returns-then-is_number
returns-then-is_number c = (refl, search warn_number)

pub overflow_add-result : goal.overflow_add-result
overflow_add-result c = record { fits = more_fits _ c.requires.1 }

pub returns : goal.returns
returns c = (search rules, search warn_unknown)
