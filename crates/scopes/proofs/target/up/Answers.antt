use Rattle.scopes.proofs.Targets.{passes}
use Rattle.scopes.proofs.target.up.Goals as goal

pub loop-b-init : goal.loop-b-init
loop-b-init c = search passes

pub overflow_add-i : goal.overflow_add-i
overflow_add-i c = search passes

pub loop-b-preserved : goal.loop-b-preserved
loop-b-preserved c = search passes

pub returns : goal.returns
returns c = search passes
