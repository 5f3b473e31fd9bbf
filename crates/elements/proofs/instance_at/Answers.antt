use Rattle.elements.proofs.Turns.{down_last, down_same}
use Rattle.elements.proofs.instance_at.Goals as goal

pub returns-in-Same : goal.returns-in-Same
returns-in-Same c = down_same _ _ _ _ _ _ c.insts_end-end.ensures _ c.loop-inst.invariant _ c.in-Some.ensures _ c.part_of.ensures _ c.next_part.ensures _ c.in-Same.is

pub returns-in-Last : goal.returns-in-Last
returns-in-Last c = down_last _ _ _ _ _ _ c.insts_end-end.ensures _ c.loop-inst.invariant _ c.in-Some.ensures _ c.part_of.ensures _ c.next_part.ensures _ c.alone-rest.ensures c.in-Last.is
