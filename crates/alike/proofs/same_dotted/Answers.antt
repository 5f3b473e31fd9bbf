-- `alike::same_dotted` meets its contract. Assumes nothing.
use Rattle.alike.proofs.Words.{words}
use Rattle.alike.proofs.same_dotted.Goals as goal

pub returns-then-is_word : goal.returns-then-is_word
returns-then-is_word c = search words

pub returns : goal.returns
returns c = search words
