-- `blocks::put_down` meets its contract. Assumes nothing.
use mathlib.Core.Path.{◌∙◌}
use Rattle.blocks.proofs.Pieces.{down_pieces}
use Rattle.out.specs.Emit.{wrote, ◌then◌}
use Rattle.blocks.proofs.put_down.Goals as goal

pub returns : goal.returns
returns c = (
  cc,
  (wrote c.put.ensures.1 then
      wrote c.put_forces.ensures.1 then
      wrote c.fill1.ensures.1).is ∙ down_pieces _ _ _,
)
