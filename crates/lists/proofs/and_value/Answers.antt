-- `lists::and_value` meets its contract. Assumes nothing.
use Rattle.lists.proofs.Laws.{ones}
use Rattle.lists.proofs.and_value.Goals as goal

pub value-requires : goal.value-requires
value-requires c = search ones

pub count-k-requires : goal.count-k-requires
count-k-requires c = search ones

pub overflow_add-t : goal.overflow_add-t
overflow_add-t c = search ones

pub returns-then-t-k-gt1024 : goal.returns-then-t-k-gt1024
returns-then-t-k-gt1024 c = search ones

pub overflow_add-result : goal.overflow_add-result
overflow_add-result c = search ones
