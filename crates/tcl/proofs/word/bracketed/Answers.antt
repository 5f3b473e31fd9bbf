-- `tcl::word::bracketed` meets its contract. Assumes nothing.
use Rattle.text.specs.Cases.{cases}
use Rattle.tcl.proofs.word.bracketed.Goals as goal

pub overflow_add-a : goal.overflow_add-a
overflow_add-a c = search cases

pub close_at-e-requires : goal.close_at-e-requires
close_at-e-requires c = search cases

pub slice_bounds-result-count : goal.slice_bounds-result-count
slice_bounds-result-count c = search cases

pub slice_bounds-result-start : goal.slice_bounds-result-start
slice_bounds-result-start c = search cases

pub slice_bounds-result-end : goal.slice_bounds-result-end
slice_bounds-result-end c = search cases

pub returns : goal.returns
returns c = search cases
