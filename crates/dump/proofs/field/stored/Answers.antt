use Rattle.std.proofs.Common.{◌∙◌}
use Rattle.dump.specs.Fields.{stored_text}
use Rattle.out.specs.Emit.{wrote, ◌then◌}
use Rattle.dump.proofs.field.stored.Goals as goal

pub returns : goal.returns
unfolding stored_text
returns c = (
  c.number-2.ensures.0 ∙ c.number.ensures.0,
  (wrote c.number.ensures.1 then
      wrote c.number-2.ensures.1).is,
)
