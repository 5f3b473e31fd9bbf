use Rattle.args.proofs.Keys.{seeks}
use Rattle.args.proofs.state.state_at.Goals as goal

pub loop-i-init : goal.loop-i-init
loop-i-init c = search seeks

pub state_here-requires : goal.state_here-requires
state_here-requires c = search seeks

pub overflow_add-i : goal.overflow_add-i
overflow_add-i c = search seeks

pub loop-i-smaller-in-None : goal.loop-i-smaller-in-None
loop-i-smaller-in-None c = search seeks

pub loop-i-preserved-in-None : goal.loop-i-preserved-in-None
loop-i-preserved-in-None c = search seeks

pub returns-then-left-eq0 : goal.returns-then-left-eq0
returns-then-left-eq0 c = search seeks

pub overflow_sub-left : goal.overflow_sub-left
overflow_sub-left c = search seeks

pub loop-i-smaller : goal.loop-i-smaller
loop-i-smaller c = search seeks

pub loop-i-preserved : goal.loop-i-preserved
loop-i-preserved c = search seeks

pub returns : goal.returns
returns c = search seeks

pub overflow_add-i-in-Some : goal.overflow_add-i-in-Some
overflow_add-i-in-Some c = search seeks
