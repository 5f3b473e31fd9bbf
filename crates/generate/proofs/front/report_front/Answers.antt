-- `generate::front::report_front` meets its contract. Assumes nothing.
use Rattle.std.proofs.Common.{rules, sym}
use Rattle.generate.specs.Steps.{ReportFronts}
use Rattle.generate.proofs.Bridged.{bridged}
use Rattle.generate.proofs.front.report_front.Goals as goal

pub returns : goal.returns
returns c = bridged (ReportFronts c.args.src.now.design.index.job.now c.args.src.now.design.index.rows.now c.args.k c.args.src.now.mem.files.now c.args.src.now.mem.area.now c.args.src.now.scope.over.now c.args.src.now.scope.from c.args.src.now.top.now c.args.s) _ _ _ _ c.put_report.ensures.front (sym c.over-to.ensures.from) (search rules)
