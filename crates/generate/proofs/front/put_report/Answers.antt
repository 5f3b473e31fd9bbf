-- `generate::front::put_report` meets its contract. Assumes nothing.
use mathlib.Core.Path.{refl}
use Rattle.switches.specs.Asked.{orders_names}
use Rattle.generate.proofs.Fronts.{report_front_told}
use Rattle.generate.proofs.front.put_report.Goals as goal

pub switch_lines-requires : goal.switch_lines-requires
switch_lines-requires c = orders_names c.args.src.now.mem.files.now c.args.src.now.mem.area.now c.args.src.now.design.index.rows.now c.args.s c.requires.1.0

pub returns : goal.returns
returns c = record { same_room = cc; front = report_front_told c.args.src.now.design.index.job.now c.args.src.now.design.index.rows.now c.args.src.now.mem.files.now c.args.src.now.mem.area.now c.args.src.now.scope.over.now c.args.src.now.scope.from c.args.src.now.top.now c.args.s c.args.nets.now.rows.now c.args.nets.now.n c.requires.1.1 c.args.k _ _ c.place-name.ensures c.place-len.ensures c.args.s.switches _ _ _ c.switch_lines.ensures.1 refl c.scope_line.ensures.1 }
