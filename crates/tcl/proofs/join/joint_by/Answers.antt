-- `tcl::join::joint_by` meets its contract. Assumes nothing.
use Rattle.text.specs.Cases.{cases}
use Rattle.tcl.specs.Join.{joint_by}
use Rattle.tcl.proofs.join.joint_by.Goals as goal

pub returns-then-a-b : goal.returns-then-a-b
unfolding joint_by
returns-then-a-b c = search cases

pub returns-then-a-b-2 : goal.returns-then-a-b-2
unfolding joint_by
returns-then-a-b-2 c = search cases

pub returns : goal.returns
unfolding joint_by
returns c = search cases
