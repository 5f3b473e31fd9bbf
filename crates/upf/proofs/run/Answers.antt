use mathlib.Core.Path.{◌∙◌}
use Rattle.upf.specs.Laws.{ran}
use Rattle.upf.proofs.run.Goals as goal

pub answered-a-requires : goal.answered-a-requires
answered-a-requires c = tt

pub clear-requires : goal.clear-requires
clear-requires c = tt

pub clear-requires-2 : goal.clear-requires-2
clear-requires-2 c = tt

pub clear_nums-requires : goal.clear_nums-requires
clear_nums-requires c = tt

pub clear-requires-3 : goal.clear-requires-3
clear-requires-3 c = tt

pub clear-requires-4 : goal.clear-requires-4
clear-requires-4 c = tt

pub clear-requires-5 : goal.clear-requires-5
clear-requires-5 c = tt

pub clear-requires-6 : goal.clear-requires-6
clear-requires-6 c = tt

pub shape_of-files : goal.shape_of-files
shape_of-files c = c.clear.auto.s ∙ c.answered-a.auto.files

pub shape_of-area : goal.shape_of-area
shape_of-area c = c.clear-2.auto.s ∙ c.answered-a.auto.area

pub shape_of-nums : goal.shape_of-nums
shape_of-nums c = c.clear_nums.auto.s ∙ c.answered-a.auto.nums

pub shape_of-glue : goal.shape_of-glue
shape_of-glue c = c.clear-3.auto.s ∙ c.answered-a.auto.glue

pub shape_of-pkg : goal.shape_of-pkg
shape_of-pkg c = c.clear-4.auto.s ∙ c.answered-a.auto.pkg

pub shape_of-report : goal.shape_of-report
shape_of-report c = c.clear-5.auto.s ∙ c.answered-a.auto.report

pub shape_of-log : goal.shape_of-log
shape_of-log c = c.clear-6.auto.s ∙ c.answered-a.auto.log

pub returns : goal.returns
returns c = ran c.args.job.now c.args.files.now _ _ c.args.area.now _ _ c.args.nums.now _ _ c.args.glue.now _ _ c.args.pkg.now _ _ c.args.report.now _ _ c.args.log.now _ _ _ c.answered-a.ensures c.answered-a.auto.files c.answered-a.auto.area c.answered-a.auto.nums c.answered-a.auto.glue c.answered-a.auto.pkg c.answered-a.auto.report c.answered-a.auto.log c.clear.ensures c.clear-2.ensures c.clear_nums.ensures c.clear-3.ensures c.clear-4.ensures c.clear-5.ensures c.clear-6.ensures
