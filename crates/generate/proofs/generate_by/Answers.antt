-- `generate::generate_by` meets its contract. Assumes nothing.
use Rattle.generate.proofs.Fronts.{has_nets, package_told}
use Rattle.generate.proofs.generate_by.Goals as goal

pub bodies-requires : goal.bodies-requires
bodies-requires c = (c.requires.0, has_nets c.args.src.now.mem.files.now c.args.src.now.mem.area.now c.args.src.now.design.index.rows.now c.args.s _ _ _ c.supply_nets-n.ensures)

pub returns : goal.returns
returns c = λ t st. c.bodies.ensures t st _ _ _ (package_told c.args.src.now.design.index.job.now c.args.src.now.design.index.rows.now c.args.src.now.mem.files.now c.args.src.now.mem.area.now c.args.src.now.scope.over.now c.args.src.now.scope.from c.args.src.now.top.now c.args.s _ _ (has_nets c.args.src.now.mem.files.now c.args.src.now.mem.area.now c.args.src.now.design.index.rows.now c.args.s _ _ _ c.supply_nets-n.ensures) c.args.src.now.design.count c.args.k t st _ _ c.package_text-end.ensures) (c.report_front-at.ensures c.args.src.now.design.count t st)
