-- `blocks::put_up` meets its contract. Assumes nothing.
use mathlib.Core.Path.{◌∙◌}
use Rattle.blocks.proofs.Pieces.{up_pieces}
use Rattle.out.specs.Emit.{wrote, ◌then◌}
use Rattle.blocks.proofs.put_up.Goals as goal

pub returns : goal.returns
returns c = (
  cc,
  (wrote c.fill1.ensures.1 then
      wrote c.put_releases.ensures.1 then
      wrote c.fill1-2.ensures.1).is ∙ up_pieces _ _ _,
)
