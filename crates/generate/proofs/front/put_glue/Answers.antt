-- `generate::front::put_glue` meets its contract. Assumes nothing.
use mathlib.Core.Path.{refl}
use Rattle.switches.specs.Asked.{orders_switches}
use Rattle.generate.proofs.Fronts.{glue_front_told}
use Rattle.generate.proofs.front.put_glue.Goals as goal

pub switches_glue-requires : goal.switches_glue-requires
switches_glue-requires c = orders_switches c.args.src.now.mem.files.now c.args.src.now.mem.area.now c.args.src.now.design.index.rows.now c.args.s c.requires.0

pub processes-requires : goal.processes-requires
processes-requires c = c.requires.1.1

pub returns : goal.returns
returns c = record { same_room = cc; front = glue_front_told c.args.src.now.design.index.job.now c.args.src.now.design.index.rows.now c.args.src.now.mem.files.now c.args.src.now.mem.area.now c.args.src.now.scope.over.now c.args.src.now.scope.from c.args.src.now.top.now c.args.s c.args.nets.now.rows.now c.args.nets.now.n c.requires.1.0 c.requires.0 c.args.ports.now.rows.now c.args.ports.now.n c.args.s.switches c.args.s.isolations _ _ _ _ _ c.processes.ensures.1 c.switches_glue.ensures.1 c.net_blocks.ensures.1 c.put.ensures.1 refl refl }
