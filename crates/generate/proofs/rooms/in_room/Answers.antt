-- `generate::rooms::in_room` meets its contract. Assumes nothing.
use Rattle.generate.proofs.Walking.{domains_asked}
use borrow.Author.Rules.{rules}
use Rattle.generate.proofs.rooms.in_room.Goals as goal

pub domains-requires : goal.domains-requires
domains-requires c = let p = c.requires in (domains_asked c.args.src.now.design.index.job.now c.args.src.now.design.index.rows.now c.args.src.now.design.count c.args.k c.args.src.now.mem.files.now c.args.src.now.mem.area.now c.args.src.now.scope.over.now c.args.s p.0.0 c.args.table.now c.args.src.now.scope.from _ c.args.kept.now c.args.r c.args.ports.now.rows.now c.args.ports.now.n p.0.1.0 c.prefix-p.ensures p.0.1.1 p.1, record { tail_long = search rules; text_long = search rules; ends_long = search rules })
