-- `targets::step_down` meets its contract: an instance found is put into the memo, or the memo is kept. Assumes nothing.
use Rattle.memo.specs.Known.{recalls_row, recalls_room}
use Rattle.targets.proofs.Turns.{step_put}
use Rattle.targets.proofs.step_down.Goals as goal

pub put-requires : goal.put-requires
put-requires c = (c.slot-h.ensures, (recalls_row _ _ _ _ c.requires, recalls_room _ _ _ _ c.requires _ c.slot-h.ensures))

pub returns : goal.returns
returns c = step_put _ _ _ _ c.requires _ _ _ c.in_ok-d.ensures _ _ _ _ c.in-More.is _ c.slot-h.ensures _ c.put.ensures
