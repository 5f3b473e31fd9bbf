use Rattle.modtable.proofs.Modules.{made_next}
use Rattle.modtable.proofs.make.make.Goals as goal

pub loop-k-preserved : goal.loop-k-preserved
loop-k-preserved c = made_next _ _ _ _ _ _ _ _ c.loop-k.invariant c.loop-k-test.true _ c.put_names.ensures c.put_names.auto.table _ c.put_ways.ensures c.put_ways.auto.table _ c.put_inputs-n.auto.inputs
