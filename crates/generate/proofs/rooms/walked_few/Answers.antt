-- `generate::rooms::walked_few` meets its contract. Assumes nothing.
use Rattle.generate.proofs.Walking.{make_few}
use borrow.Author.Rules.{rules}
use Rattle.generate.proofs.rooms.walked_few.Goals as goal

pub make-requires : goal.make-requires
make-requires c = make_few c.args.src.now.design.index.job.now c.args.src.now.design.index.rows.now c.args.src.now.design.count c.args.k c.args.src.now.mem.files.now c.args.src.now.mem.area.now c.args.src.now.scope.over.now c.args.s c.requires.0.0 _ _ (search rules) c.requires.0.1 (search rules)
