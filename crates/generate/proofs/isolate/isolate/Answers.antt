-- `generate::isolate::isolate` meets its contract. Assumes nothing.
use mathlib.Core.Path.{refl}
use Rattle.generate.proofs.Isolates.{isolation_asked, all_isolated}
use Rattle.generate.proofs.isolate.isolate.Goals as goal

pub isolation-requires : goal.isolation-requires
isolation-requires c = (isolation_asked c.args.design.now.index.job.now c.args.design.now.index.rows.now c.args.design.now.count c.args.k c.args.mem.now.files.now c.args.mem.now.area.now c.args.s c.requires.0 c.args.s.isolations c.args.s.domains refl refl, c.requires.1)

pub returns : goal.returns
returns c = all_isolated c.args.design.now.index.job.now c.args.design.now.index.rows.now c.args.design.now.count c.args.k c.args.mem.now.files.now c.args.mem.now.area.now c.args.s c.requires.0 c.args.s.isolations c.args.s.domains refl refl _ _ _ _ _ _ c.isolation.ensures
