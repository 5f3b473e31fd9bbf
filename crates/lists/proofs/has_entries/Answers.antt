-- `lists::has_entries` meets its contract. Assumes nothing.
use Rattle.lists.proofs.Laws.{ones}
use Rattle.lists.proofs.has_entries.Goals as goal

pub value-requires : goal.value-requires
value-requires c = search ones

pub count-requires : goal.count-requires
count-requires c = search ones

pub returns : goal.returns
returns c = search ones
