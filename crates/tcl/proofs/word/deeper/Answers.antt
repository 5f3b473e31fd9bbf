-- `tcl::word::deeper` meets its contract. Assumes nothing.
use Rattle.text.specs.Cases.{cases}
use Rattle.tcl.specs.Words.{depth}
use Rattle.tcl.proofs.word.deeper.Goals as goal

pub returns-then-b-op : goal.returns-then-b-op
unfolding depth
returns-then-b-op c = search cases

pub returns-then-b-cl : goal.returns-then-b-cl
unfolding depth
returns-then-b-cl c = search cases

pub returns : goal.returns
unfolding depth
returns c = search cases
