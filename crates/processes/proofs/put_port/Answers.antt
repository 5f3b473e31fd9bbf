-- `processes::put_port` meets its contract. Assumes nothing.
use borrow.Author.Rules.{rules}
use mathlib.Core.List.{◌++◌}
use Rattle.scope.specs.Parts.{parts}
use Rattle.processes.proofs.Written.{port_written}
use Rattle.processes.proofs.put_port.Goals as goal

pub fill4-requires : goal.fill4-requires
fill4-requires c = search (rules, c.requires.0)

pub returns : goal.returns
returns c = (cc, port_written c.args.src.now.design.index.job.now (c.args.src.now.mem.files.now ++ c.args.src.now.mem.area.now) (parts c.args.src.now.scope.over.now c.args.src.now.scope.from) c.args.src.now.top.now c.args.s c.args.x c.args.tpl.now _ _ _ _ _ _ _ _ c.fill4.ensures.1 c.net_arg-a.ensures c.literal_arg-b.ensures c.clamp.ensures c.name-c.ensures c.stored.ensures c.port_arg-d.ensures c.requires.1)
