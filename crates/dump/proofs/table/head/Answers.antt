use Rattle.std.proofs.Common.{◌∙◌}
use Rattle.dump.specs.Tables.{head_text}
use Rattle.out.specs.Emit.{wrote, ◌then◌}
use Rattle.dump.proofs.table.head.Goals as goal

pub returns : goal.returns
unfolding head_text
returns c = (
  c.number.ensures.0 ∙ c.stored.ensures.0 ∙ c.maybe.ensures.0,
  (wrote c.maybe.ensures.1 then
      wrote c.stored.ensures.1 then
      wrote c.number.ensures.1).is,
)
