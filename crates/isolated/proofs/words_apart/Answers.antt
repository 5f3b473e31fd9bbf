-- `isolated::words_apart` meets its contract. Assumes nothing.
use Rattle.isolated.proofs.Apart.{words}
use Rattle.isolated.proofs.words_apart.Goals as goal

pub returns-then-p-q-2 : goal.returns-then-p-q-2
returns-then-p-q-2 c = search words
