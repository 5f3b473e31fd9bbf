use Rattle.modtable.proofs.Listed.{inputs_next}
use Rattle.modtable.proofs.inputs.put_inputs.Goals as goal

pub loop-own-preserved : goal.loop-own-preserved
loop-own-preserved c = inputs_next _ _ _ _ _ _ _ c.loop-own.invariant _ c.in-Some.ensures _ c.put_part.ensures
