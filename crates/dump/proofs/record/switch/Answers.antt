use Rattle.std.proofs.Common.{◌∙◌}
use Rattle.dump.specs.Records.{switch_text}
use Rattle.out.specs.Emit.{wrote, ◌then◌}
use Rattle.dump.proofs.record.switch.Goals as goal

pub returns : goal.returns
unfolding switch_text
returns c = (
  c.number-3.ensures.0 ∙ c.number-2.ensures.0 ∙ c.number.ensures.0 ∙ c.stored-5.ensures.0 ∙ c.stored-4.ensures.0 ∙ c.stored-3.ensures.0 ∙ c.stored-2.ensures.0 ∙ c.maybe.ensures.0 ∙ c.stored.ensures.0,
  (wrote c.stored.ensures.1 then
      wrote c.maybe.ensures.1 then
      wrote c.stored-2.ensures.1 then
      wrote c.stored-3.ensures.1 then
      wrote c.stored-4.ensures.1 then
      wrote c.stored-5.ensures.1 then
      wrote c.number.ensures.1 then
      wrote c.number-2.ensures.1 then
      wrote c.number-3.ensures.1).is,
)
