use Rattle.fields.proofs.Leaves.{paths}
use Rattle.fields.proofs.is_path.Goals as goal

pub loop-i-init : goal.loop-i-init
loop-i-init c = search paths

pub find-e-requires : goal.find-e-requires
find-e-requires c = search paths

pub slice_bounds-is_part-count : goal.slice_bounds-is_part-count
slice_bounds-is_part-count c = search paths

pub slice_bounds-is_part-start : goal.slice_bounds-is_part-start
slice_bounds-is_part-start c = search paths

pub slice_bounds-is_part-end : goal.slice_bounds-is_part-end
slice_bounds-is_part-end c = search paths

pub is_part-requires : goal.is_part-requires
is_part-requires c = search paths

pub returns-then-not-is_part : goal.returns-then-not-is_part
returns-then-not-is_part c = search paths

pub returns-then-e-w : goal.returns-then-e-w
returns-then-e-w c = search paths

pub overflow_add-i : goal.overflow_add-i
overflow_add-i c = search paths

pub loop-i-smaller : goal.loop-i-smaller
loop-i-smaller c = search paths

pub loop-i-preserved : goal.loop-i-preserved
loop-i-preserved c = search paths
