-- `tcl::word::plain` meets its contract. Assumes nothing.
use Rattle.text.specs.Cases.{cases}
use Rattle.tcl.proofs.word.plain.Goals as goal

pub plain_end-e-requires : goal.plain_end-e-requires
plain_end-e-requires c = search cases

pub slice_bounds-result-count : goal.slice_bounds-result-count
slice_bounds-result-count c = search cases

pub slice_bounds-result-start : goal.slice_bounds-result-start
slice_bounds-result-start c = search cases

pub slice_bounds-result-end : goal.slice_bounds-result-end
slice_bounds-result-end c = search cases

pub returns : goal.returns
returns c = search cases
