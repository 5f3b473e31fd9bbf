use Rattle.std.proofs.Common.{◌∙◌}
use Rattle.dump.specs.Fields.{number_text}
use Rattle.out.specs.Emit.{wrote, ◌then◌}
use Rattle.dump.proofs.field.number.Goals as goal

pub returns : goal.returns
unfolding number_text
returns c = (
  c.put.ensures.0 ∙ c.decimal.ensures.0,
  (wrote c.decimal.ensures.1 then
      wrote c.put.ensures.1).is,
)
