-- `targets::find_instance` meets its contract: the memo is empty at first. Assumes nothing.
use borrow.Author.Rules.{rules}
use Rattle.memo.specs.Known.{known_none}
use Rattle.targets.proofs.find_instance.Goals as goal

pub find_by-requires : goal.find_by-requires
find_by-requires c = record { few = search rules; row = search rules; small = search rules; known = known_none _ _ }
