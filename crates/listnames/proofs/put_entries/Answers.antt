use Rattle.listnames.proofs.Turns.{lists_start, lists_long, inside_small, item_less, row_few, row_room, row_more, stores_alone, plain_end, plain_step}
use Rattle.listnames.proofs.put_entries.Goals as goal

pub loop-item-init : goal.loop-item-init
loop-item-init c = search lists_start

pub shape_of-table : goal.shape_of-table
shape_of-table c = search lists_long

pub returns : goal.returns
returns c = search plain_end

pub inside-requires : goal.inside-requires
inside-requires c = search inside_small

pub put_row-requires : goal.put_row-requires
put_row-requires c = search (row_few, row_room, stores_alone)

pub overflow_add-k : goal.overflow_add-k
overflow_add-k c = search row_more

pub loop-item-smaller : goal.loop-item-smaller
loop-item-smaller c = search item_less

pub loop-item-preserved : goal.loop-item-preserved
loop-item-preserved c = search plain_step
