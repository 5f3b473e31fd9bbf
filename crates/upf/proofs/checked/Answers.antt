use mathlib.Core.Path.{◌∙◌}
use Rattle.upf.specs.Laws.{checked_stop, checked_asks, checked_texts}
use Rattle.upf.proofs.checked.Goals as goal

pub read_intent-requires : goal.read_intent-requires
read_intent-requires c = c.requires

pub refused-requires : goal.refused-requires
refused-requires c = tt

pub returns-in-Err : goal.returns-in-Err
returns-in-Err c = checked_stop c.args.job.now _ _ _ c.args.log.now _ _ c.in-Err.ensures _ c.refused.ensures c.args.glue.now c.args.pkg.now c.args.report.now

pub texts-t-requires : goal.texts-t-requires
texts-t-requires c = checked_asks c.args.job.now _ _ _ c.args.log.now _ _ c.in-Ok.ensures (c.read_intent.auto.files ∙ c.requires.0) (c.read_intent.auto.area ∙ c.requires.1.0)

pub fitted-requires : goal.fitted-requires
fitted-requires c = tt

pub returns-in-Ok : goal.returns-in-Ok
returns-in-Ok c = checked_texts c.args.job.now _ _ _ c.args.log.now _ _ c.in-Ok.ensures c.args.glue.now _ c.args.pkg.now _ c.args.report.now _ _ c.texts-t.ensures c.read_intent.auto.log _ c.fitted.ensures
