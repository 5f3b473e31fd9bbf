-- `generate::rooms::over_table` meets its contract. Assumes nothing.
use mathlib.Core.Path.{refl}
use Rattle.generate.proofs.Walking.{retained_asked, retains}
use borrow.Author.Rules.{rules}
use Rattle.generate.proofs.rooms.over_table.Goals as goal

pub retained-r-requires : goal.retained-r-requires
retained-r-requires c = retained_asked c.args.src.now.design.index.job.now c.args.src.now.design.index.rows.now c.args.src.now.design.count c.args.k c.args.src.now.mem.files.now c.args.src.now.mem.area.now c.args.src.now.scope.over.now c.args.s c.requires.0.0 c.args.s.retentions refl _ (search rules)

pub in_room-requires : goal.in_room-requires
in_room-requires c = let p = c.requires in ((p.0.0, (p.0.1, retains c.args.src.now.design.index.job.now c.args.src.now.design.index.rows.now c.args.src.now.design.count c.args.k c.args.src.now.mem.files.now c.args.src.now.mem.area.now c.args.src.now.scope.over.now c.args.s p.0.0 c.args.s.retentions refl _ _ _ c.retained-r.ensures)), p.1)
