use Rattle.std.proofs.Common.{◌∙◌}
use Rattle.dump.specs.Records.{port_state_text}
use Rattle.out.specs.Emit.{wrote, ◌then◌}
use Rattle.dump.proofs.record.port_state.Goals as goal

pub returns : goal.returns
unfolding port_state_text
returns c = (
  c.number-2.ensures.0 ∙ c.number.ensures.0 ∙ c.below.ensures.0,
  (wrote c.below.ensures.1 then
      wrote c.number.ensures.1 then
      wrote c.number-2.ensures.1).is,
)
