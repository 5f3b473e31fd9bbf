-- `tablelines::put_values` meets its contract. Assumes nothing.
use mathlib.Core.Path.{◌∙◌}
use Rattle.tablelines.proofs.States.{values_pieces}
use Rattle.out.specs.Emit.{wrote, ◌then◌}
use Rattle.tablelines.proofs.put_values.Goals as goal

pub returns : goal.returns
returns c = (
  cc,
  (wrote c.put.ensures.1 then
      wrote c.put-2.ensures.1 then
      wrote c.put_names.ensures.1 then
      wrote c.put-3.ensures.1).is ∙ values_pieces _ _ _,
)
