use Rattle.modtable.proofs.Listed.{among_on}
use Rattle.modtable.proofs.inputs.is_listed.Goals as goal

pub loop-i-preserved : goal.loop-i-preserved
loop-i-preserved c = among_on _ _ _ _ _ _ c.loop-i.invariant c.loop-i-test.true _ c.part_at.ensures _ c.same.ensures c.if-same.false
