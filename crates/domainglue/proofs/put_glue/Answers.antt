-- `domainglue::put_glue` meets its contract. Assumes nothing.
use Rattle.out.specs.Emit.{wrote, ◌then◌}
use Rattle.domainglue.proofs.put_glue.Goals as goal

pub returns : goal.returns
returns c = (
  cc,
  (wrote c.put_wire.ensures.1 then
      wrote c.put_up.ensures.1 then
      wrote c.put_checks.ensures.1 then
      wrote c.put_down.ensures.1 then
      wrote c.put_initial.ensures.1).is,
)

pub put_down-requires : goal.put_down-requires
put_down-requires c = c.requires.1

pub put_initial-requires : goal.put_initial-requires
put_initial-requires c = c.requires.1
