-- `pathlines::put_line` meets its contract. Assumes nothing.
use mathlib.Core.Path.{◌∙◌}
use Rattle.pathlines.proofs.Writes.{line_is_lem}
use Rattle.out.specs.Emit.{wrote, ◌then◌}
use Rattle.pathlines.proofs.put_line.Goals as goal

pub returns : goal.returns
returns c = (
  cc,
  (wrote c.put.ensures.1 then
      wrote c.put_scope.ensures.1 then
      wrote c.put-2.ensures.1 then
      wrote c.put-3.ensures.1).is ∙ line_is_lem _ _ _ _ _,
)
