use Rattle.std.proofs.Common.{◌∙◌}
use Rattle.dump.specs.Records.{isolation_text}
use Rattle.out.specs.Emit.{wrote, ◌then◌}
use Rattle.dump.proofs.record.isolation.Goals as goal

pub returns : goal.returns
unfolding isolation_text
returns c = (
  c.maybe-6.ensures.0 ∙ c.maybe-5.ensures.0 ∙ c.maybe-4.ensures.0 ∙ c.maybe-3.ensures.0 ∙ c.maybe-2.ensures.0 ∙ c.stored-4.ensures.0 ∙ c.stored-3.ensures.0 ∙ c.maybe.ensures.0 ∙ c.stored-2.ensures.0 ∙ c.stored.ensures.0,
  (wrote c.stored.ensures.1 then
      wrote c.stored-2.ensures.1 then
      wrote c.maybe.ensures.1 then
      wrote c.stored-3.ensures.1 then
      wrote c.stored-4.ensures.1 then
      wrote c.maybe-2.ensures.1 then
      wrote c.maybe-3.ensures.1 then
      wrote c.maybe-4.ensures.1 then
      wrote c.maybe-5.ensures.1 then
      wrote c.maybe-6.ensures.1).is,
)
