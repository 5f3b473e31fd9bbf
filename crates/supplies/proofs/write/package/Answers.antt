-- `supplies::write::package` meets its contract. Assumes nothing.
use Rattle.out.specs.Emit.{wrote, ◌then◌}
use Rattle.supplies.proofs.write.package.Goals as goal

pub returns : goal.returns
unfolding Rattle.texts.specs.Texts.package_of
returns c = (
  cc,
  (wrote c.put.ensures.1 then
      wrote c.apply_cases.ensures.1 then
      wrote c.put-2.ensures.1 then
      wrote c.state_cases.ensures.1 then
      wrote c.put-3.ensures.1 then
      wrote c.voltage_cases.ensures.1 then
      wrote c.put-4.ensures.1).is,
)
