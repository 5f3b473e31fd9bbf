-- `domainline::powered_line` meets its contract. Assumes nothing.
use Rattle.out.specs.Emit.{wrote, ◌then◌}
use Rattle.domainline.proofs.powered_line.Goals as goal

pub returns : goal.returns
returns c = (
  cc,
  (wrote c.put_signals.ensures.1 then
      wrote c.put_exempt.ensures.1 then
      wrote c.put.ensures.1).is,
)
