-- `substitution::put::put_written` meets its contract. Assumes nothing.
use Rattle.substitution.proofs.Writing.{limits}
use Rattle.substitution.proofs.put.put_written.Goals as goal

pub overflow_sub-limit : goal.overflow_sub-limit
overflow_sub-limit c = search limits

pub returns-then-limit-o : goal.returns-then-limit-o
returns-then-limit-o c = search limits

pub copy-requires : goal.copy-requires
copy-requires c = search limits

pub shape_of-area : goal.shape_of-area
shape_of-area c = search limits

pub returns : goal.returns
returns c = search limits
