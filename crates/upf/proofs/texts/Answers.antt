use Rattle.upf.specs.Laws.{staged_stop, asks, staged_texts}
use borrow.Author.Rules.{rules}
use Rattle.upf.proofs.texts.Goals as goal

pub find_scope-requires : goal.find_scope-requires
find_scope-requires c = (c.requires.0, (c.requires.1.1.0, search rules))

pub returns-in-Err : goal.returns-in-Err
returns-in-Err c = staged_stop c.args.index.now.job.now c.args.index.now.rows.now c.args.mem.now.files.now c.args.mem.now.area.now c.args.head c.args.s _ _ _ c.in-Err.ensures c.args.glue.now c.args.pkg.now c.args.report.now _ c.number.ensures _ c.stopped.ensures

pub generate-requires : goal.generate-requires
generate-requires c = asks c.args.index.now.job.now c.args.index.now.rows.now c.args.mem.now.files.now c.args.mem.now.area.now c.args.head c.args.s _ _ _ c.in-Ok.ensures c.requires.0 c.requires.1.0 c.requires.1.1.1.0 c.requires.1.1.1.1 (search rules) _ c.path_text-path.ensures

pub returns-in-Ok : goal.returns-in-Ok
returns-in-Ok c = staged_texts c.args.index.now.job.now c.args.index.now.rows.now c.args.mem.now.files.now c.args.mem.now.area.now c.args.head c.args.s _ _ _ c.in-Ok.ensures _ _ c.path_text-path.ensures c.part_of-top.ensures c.args.glue.now _ c.args.pkg.now _ c.args.report.now _ _ c.generate.ensures
