use Rattle.std.proofs.Common.{◌∙◌}
use Rattle.dump.proofs.Each.{each_next, table_done}
use Rattle.dump.proofs.table.table.Goals as goal

pub loop-x-preserved : goal.loop-x-preserved
loop-x-preserved g c = (
  c.dump.ensures.0 ∙ c.loop-x.invariant.0,
  each_next g.T.Dumped.text _ _ _ _ c.loop-x.invariant.1 c.x-item.result _ c.loop-x-test.true (rw c.x-item.is at c.dump.ensures.1),
)

pub returns : goal.returns
returns g c = (
  c.loop-x.invariant.0 ∙ c.number.ensures.0,
  table_done g.T.Dumped.text _ _ _ _ _ _ c.number.ensures.1 c.loop-x.invariant.1 c.loop-x-test.false,
)
