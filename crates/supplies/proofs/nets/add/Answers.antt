-- `supplies::nets::add` meets its contract. Assumes nothing.
use Rattle.supplies.proofs.Tables.{adds_few, adds_room, adds_more, adds_stores, added_old, added_new}
use Rattle.supplies.proofs.nets.add.Goals as goal

pub is_listed-requires : goal.is_listed-requires
is_listed-requires c = search adds_few

pub returns-then-is_listed : goal.returns-then-is_listed
returns-then-is_listed c = search added_old

pub put_row-requires : goal.put_row-requires
put_row-requires c = search (adds_few, adds_room, adds_stores)

pub overflow_add-result : goal.overflow_add-result
overflow_add-result c = search adds_more

pub returns : goal.returns
returns c = search added_new
