use Rattle.std.proofs.Common.{◌∙◌}
use Rattle.dump.specs.Records.{shifter_text}
use Rattle.out.specs.Emit.{wrote, ◌then◌}
use Rattle.dump.proofs.record.shifter.Goals as goal

pub returns : goal.returns
unfolding shifter_text
returns c = (
  c.stored-2.ensures.0 ∙ c.stored.ensures.0,
  (wrote c.stored.ensures.1 then
      wrote c.stored-2.ensures.1).is,
)
