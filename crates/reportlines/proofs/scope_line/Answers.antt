-- `reportlines::scope_line` meets its contract. Assumes nothing.
use mathlib.Core.Path.{◌∙◌}
use Rattle.reportlines.proofs.Head.{scope_pieces}
use Rattle.out.specs.Emit.{wrote, ◌then◌}
use Rattle.reportlines.proofs.scope_line.Goals as goal

pub returns : goal.returns
returns c = (
  cc,
  (wrote c.put_head.ensures.1 then
      wrote c.decimal.ensures.1 then
      wrote c.put.ensures.1 then
      wrote c.put_names.ensures.1 then
      wrote c.put-2.ensures.1).is ∙ scope_pieces _ _ _ _ _,
)
