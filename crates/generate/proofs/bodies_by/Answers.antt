-- `generate::bodies_by` meets its contract: each limit is asked for where it is seen, and within all of them the texts are the pieces. Assumes nothing.
use mathlib.Core.Path.{refl, ◌∙◌}
use mathlib.Core.Bool.{false}
use Rattle.generate.proofs.Isolates.{asks_isolates, isolated_ruled}
use Rattle.generate.proofs.Chain.{bodied_ports, bodied_walks, bodied_warnings, bodied_texts}
use Rattle.generate.proofs.bodies_by.Goals as goal

pub isolate-c-requires : goal.isolate-c-requires
isolate-c-requires c = (asks_isolates c.args.src.now.design.index.job.now c.args.src.now.design.index.rows.now c.args.src.now.design.count c.args.k c.args.src.now.mem.files.now c.args.src.now.mem.area.now c.args.src.now.scope.over.now c.args.s c.requires.0, c.requires.1.1)

pub returns-then-c : goal.returns-then-c
returns-then-c c = bodied_ports c.args.src.now.design.index.job.now c.args.src.now.design.index.rows.now c.args.src.now.design.count c.args.k c.args.src.now.mem.files.now c.args.src.now.mem.area.now c.args.src.now.scope.over.now c.args.src.now.scope.from c.args.src.now.top.now c.args.s _ c.args.end _ _ _ _ c.isolate-c.ensures _ _ _ c.if-c.true c.stopped.ensures

pub glue_front-g-requires : goal.glue_front-g-requires
glue_front-g-requires c = (c.requires.0.orders, (c.requires.1.0, isolated_ruled c.args.src.now.design.index.job.now c.args.src.now.design.index.rows.now c.args.src.now.design.count c.args.k c.args.src.now.mem.files.now c.args.src.now.mem.area.now c.args.s false _ _ _ _ c.isolate-c.ensures c.if-c.false))

pub walked-requires : goal.walked-requires
walked-requires c = (c.requires.0, isolated_ruled c.args.src.now.design.index.job.now c.args.src.now.design.index.rows.now c.args.src.now.design.count c.args.k c.args.src.now.mem.files.now c.args.src.now.mem.area.now c.args.s false _ _ _ _ c.isolate-c.ensures c.if-c.false)

pub returns-in_default : goal.returns-in_default
returns-in_default c = bodied_walks c.args.src.now.design.index.job.now c.args.src.now.design.index.rows.now c.args.src.now.design.count c.args.k c.args.src.now.mem.files.now c.args.src.now.mem.area.now c.args.src.now.scope.over.now c.args.src.now.scope.from c.args.src.now.top.now c.args.s _ c.args.end _ _ _ _ c.isolate-c.ensures c.in_default.ensures _ _ _ c.stopped-in_default.ensures

pub tail-x-requires : goal.tail-x-requires
tail-x-requires c = c.requires.0

pub shape_of-ports-then-x-gt512 : goal.shape_of-ports-then-x-gt512
shape_of-ports-then-x-gt512 c = c.isolate-c.auto.ports

pub shape_of-report-then-x-gt512 : goal.shape_of-report-then-x-gt512
shape_of-report-then-x-gt512 c = c.tail-x.auto.report ∙ (c.walked.auto.report ∙ c.isolate-c.auto.out)

pub returns-then-x-gt512 : goal.returns-then-x-gt512
returns-then-x-gt512 c = bodied_warnings c.args.src.now.design.index.job.now c.args.src.now.design.index.rows.now c.args.src.now.design.count c.args.k c.args.src.now.mem.files.now c.args.src.now.mem.area.now c.args.src.now.scope.over.now c.args.src.now.scope.from c.args.src.now.top.now c.args.s _ c.args.end _ _ _ _ c.isolate-c.ensures c.if-c.false _ _ _ _ c.in-Ok.ensures _ _ c.tail-x.ensures _ c.if-x-gt512.true c.stopped-then-x-gt512.ensures

pub shape_of-ports : goal.shape_of-ports
shape_of-ports c = c.isolate-c.auto.ports

pub shape_of-report : goal.shape_of-report
shape_of-report c = c.tail-x.auto.report ∙ (c.walked.auto.report ∙ c.isolate-c.auto.out)

pub returns : goal.returns
returns c = bodied_texts c.args.src.now.design.index.job.now c.args.src.now.design.index.rows.now c.args.src.now.design.count c.args.k c.args.src.now.mem.files.now c.args.src.now.mem.area.now c.args.src.now.scope.over.now c.args.src.now.scope.from c.args.src.now.top.now c.args.s _ c.args.end _ _ _ _ c.isolate-c.ensures c.if-c.false _ _ _ _ c.in-Ok.ensures _ _ c.tail-x.ensures _ c.glue_front-g.ensures c.if-x-gt512.false refl
