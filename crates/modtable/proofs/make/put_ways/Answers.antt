use Rattle.modtable.proofs.Ways.{ways_end, ways_next}
use Rattle.modtable.proofs.make.put_ways.Goals as goal

pub loop-inst-preserved : goal.loop-inst-preserved
loop-inst-preserved c = ways_next _ _ _ _ _ _ _ _ _ c.loop-inst.invariant _ c.in-Some.ensures _ c.in-Some-entering.ensures _ c.put_part.ensures _ c.low.ensures

pub returns : goal.returns
returns c = ways_end _ _ _ _ _ _ _ _ _ c.loop-inst.invariant c.in_default.ensures _ c.low-2.ensures
