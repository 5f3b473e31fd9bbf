use Rattle.std.proofs.Common.{◌∙◌}
use Rattle.dump.specs.Records.{domain_text}
use Rattle.out.specs.Emit.{wrote, ◌then◌}
use Rattle.dump.proofs.record.domain.Goals as goal

pub returns : goal.returns
unfolding domain_text
returns c = (
  c.stored-3.ensures.0 ∙ c.maybe_below-2.ensures.0 ∙ c.maybe_below.ensures.0 ∙ c.flag.ensures.0 ∙ c.stored-2.ensures.0 ∙ c.stored.ensures.0,
  (wrote c.stored.ensures.1 then
      wrote c.stored-2.ensures.1 then
      wrote c.flag.ensures.1 then
      wrote c.maybe_below.ensures.1 then
      wrote c.maybe_below-2.ensures.1 then
      wrote c.stored-3.ensures.1).is,
)
