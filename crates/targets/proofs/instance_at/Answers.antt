use Rattle.std.proofs.Common.{refl}
use Rattle.targets.proofs.Turns.{down_last, down_more, down_none, down_other}
use Rattle.targets.proofs.instance_at.Goals as goal

pub returns-in-Last : goal.returns-in-Last
returns-in-Last c = down_last _ _ _ _ _ _ c.insts_end-end.ensures _ c.loop-inst.invariant _ c.in-Some.ensures _ c.part_of-w.ensures _ c.first_part.ensures c.in-Last.is

pub returns-in-More : goal.returns-in-More
returns-in-More c = down_more _ _ _ _ _ _ c.insts_end-end.ensures _ c.loop-inst.invariant _ c.in-Some.ensures _ c.part_of-w.ensures _ c.first_part.ensures _ _ refl c.in-More.is

pub loop-inst-preserved : goal.loop-inst-preserved
loop-inst-preserved c = down_other _ _ _ _ _ _ c.insts_end-end.ensures _ c.loop-inst.invariant _ c.in-Some.ensures _ c.part_of-w.ensures _ c.first_part.ensures c.in-Other.is

pub returns : goal.returns
returns c = down_none _ _ _ _ _ _ c.insts_end-end.ensures _ c.loop-inst.invariant c.in_default.ensures
