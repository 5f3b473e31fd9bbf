-- `tablelines::put_table` meets its contract. Assumes nothing.
use mathlib.Core.Path.{◌∙◌}
use Rattle.tablelines.proofs.Lines.{table_pieces}
use Rattle.out.specs.Emit.{wrote, ◌then◌}
use Rattle.tablelines.proofs.put_table.Goals as goal

pub returns : goal.returns
returns c = (
  cc,
  (wrote c.fill1.ensures.1 then
      wrote c.put_names.ensures.1 then
      wrote c.put.ensures.1 then
      wrote c.put_states.ensures.1 then
      wrote c.put-2.ensures.1).is ∙ table_pieces _ _ _ _,
)
