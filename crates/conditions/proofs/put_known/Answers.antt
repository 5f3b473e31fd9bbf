-- `conditions::put_known` meets its contract. Assumes nothing.
use Rattle.conditions.proofs.Written.{word_known}
use Rattle.conditions.proofs.Written.{word_number}
use Rattle.conditions.proofs.Written.{word_unknown}
use borrow.Author.Rules.{rules}
use Rattle.conditions.proofs.put_known.Goals as goal

pub returns-then-k-ne0 : goal.returns-then-k-ne0
returns-then-k-ne0 c = (search rules, search (word_known, word_number, word_unknown))

pub returns-then-is_number : goal.returns-then-is_number
returns-then-is_number c = (search rules, search (word_known, word_number, word_unknown))
