-- `blocks::put_initial` meets its contract. Assumes nothing.
use mathlib.Core.Path.{◌∙◌}
use Rattle.blocks.proofs.Pieces.{initial_pieces}
use Rattle.out.specs.Emit.{wrote, ◌then◌}
use Rattle.blocks.proofs.put_initial.Goals as goal

pub returns : goal.returns
returns c = (
  cc,
  (wrote c.fill1.ensures.1 then
      wrote c.put_forces.ensures.1 then
      wrote c.put.ensures.1).is ∙ initial_pieces _ _ _,
)
