-- `lists::and_states` meets its contract. Assumes nothing.
use Rattle.lists.proofs.Laws.{left_start, left_end, left_on}
use Rattle.lists.proofs.and_states.Goals as goal

pub loop-k-init : goal.loop-k-init
loop-k-init c = left_start _ _ _ _ _ _ c.requires.1

pub returns-in_default : goal.returns-in_default
returns-in_default c = left_end _ _ _ _ _ c.loop-k.invariant _ _ _ c.state_at.ensures c.in_default.is

pub loop-k-preserved : goal.loop-k-preserved
loop-k-preserved c = left_on _ _ _ _ _ c.loop-k.invariant _ _ _ c.state_at.ensures _ _ c.in-Some.is _ c.and_value-t.ensures
