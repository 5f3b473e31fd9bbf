use Rattle.std.proofs.Common.{◌∙◌}
use Rattle.dump.specs.Records.{port_text}
use Rattle.out.specs.Emit.{wrote, ◌then◌}
use Rattle.dump.proofs.record.port.Goals as goal

pub returns : goal.returns
unfolding port_text
returns c = (
  c.maybe.ensures.0 ∙ c.below.ensures.0,
  (wrote c.below.ensures.1 then
      wrote c.maybe.ensures.1).is,
)
