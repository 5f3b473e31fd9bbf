-- `tcl::join::joined_by` meets its contract. Assumes nothing.
use Rattle.text.specs.Cases.{cases}
use Rattle.tcl.specs.Join.{joined_by}
use Rattle.tcl.proofs.join.joined_by.Goals as goal

pub returns-then-n-eq0 : goal.returns-then-n-eq0
unfolding joined_by
returns-then-n-eq0 c = search cases

pub returns : goal.returns
unfolding joined_by
returns c = search cases
