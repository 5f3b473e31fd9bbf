-- `domainline::put_signals` meets its contract. Assumes nothing.
use mathlib.Core.Path.{◌∙◌}
use Rattle.domainline.proofs.Written.{signals_pieces}
use Rattle.out.specs.Emit.{wrote, ◌then◌}
use Rattle.domainline.proofs.put_signals.Goals as goal

pub returns : goal.returns
returns c = (
  cc,
  (wrote c.fill1.ensures.1 then
      wrote c.put_names.ensures.1 then
      wrote c.fill2.ensures.1 then
      wrote c.decimal.ensures.1 then
      wrote c.put.ensures.1).is ∙ signals_pieces _ _ _ _ _ _,
)
