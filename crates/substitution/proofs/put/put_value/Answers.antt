-- `substitution::put::put_value` meets its contract. Assumes nothing.
use Rattle.substitution.proofs.Writing.{limits, prefix_is}
use Rattle.substitution.proofs.put.put_value.Goals as goal

pub slice_bounds-size-end : goal.slice_bounds-size-end
slice_bounds-size-end c = search limits

pub slice_bounds-size-end-2 : goal.slice_bounds-size-end-2
slice_bounds-size-end-2 c = search prefix_is

pub size-n-requires : goal.size-n-requires
size-n-requires c = search limits

pub overflow_sub-limit : goal.overflow_sub-limit
overflow_sub-limit c = search limits

pub shape_of-area-then-limit-o : goal.shape_of-area-then-limit-o
shape_of-area-then-limit-o c = search limits

pub returns-then-limit-o : goal.returns-then-limit-o
returns-then-limit-o c = search limits

pub append_span-requires : goal.append_span-requires
append_span-requires c = search limits

pub shape_of-area : goal.shape_of-area
shape_of-area c = search limits

pub returns : goal.returns
returns c = search limits
