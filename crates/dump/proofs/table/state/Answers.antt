use Rattle.std.proofs.Common.{◌∙◌}
use Rattle.dump.specs.Tables.{state_text}
use Rattle.out.specs.Emit.{wrote, ◌then◌}
use Rattle.dump.proofs.table.state.Goals as goal

pub returns : goal.returns
unfolding state_text
returns c = (
  c.table-9.ensures.0 ∙ c.table-8.ensures.0 ∙ c.table-7.ensures.0 ∙ c.table-6.ensures.0 ∙ c.table-5.ensures.0 ∙ c.table-4.ensures.0 ∙ c.table-3.ensures.0 ∙ c.table-2.ensures.0 ∙ c.table.ensures.0 ∙ c.head.ensures.0,
  (wrote c.head.ensures.1 then
      wrote c.table.ensures.1 then
      wrote c.table-2.ensures.1 then
      wrote c.table-3.ensures.1 then
      wrote c.table-4.ensures.1 then
      wrote c.table-5.ensures.1 then
      wrote c.table-6.ensures.1 then
      wrote c.table-7.ensures.1 then
      wrote c.table-8.ensures.1 then
      wrote c.table-9.ensures.1).is,
)
