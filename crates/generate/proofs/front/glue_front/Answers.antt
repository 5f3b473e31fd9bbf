-- `generate::front::glue_front` meets its contract. Assumes nothing.
use Rattle.std.proofs.Common.{rules, sym}
use Rattle.generate.specs.Steps.{GlueFronts}
use Rattle.generate.proofs.Bridged.{bridged}
use Rattle.generate.proofs.front.glue_front.Goals as goal

pub returns : goal.returns
returns c = bridged (GlueFronts c.args.src.now.design.index.job.now c.args.src.now.design.index.rows.now c.args.src.now.mem.files.now c.args.src.now.mem.area.now c.args.src.now.scope.over.now c.args.src.now.scope.from c.args.src.now.top.now c.args.s c.args.ports.now.rows.now c.args.ports.now.n) _ _ _ _ c.put_glue.ensures.front (sym c.over-to.ensures.from) (search rules)
