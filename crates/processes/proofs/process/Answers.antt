-- `processes::process` meets its contract. Assumes nothing.
use mathlib.Core.List.{◌++◌}
use Rattle.scope.specs.Parts.{parts}
use Rattle.isolated.specs.Table.{kept_in}
use Rattle.processes.proofs.Texts.{process_written}
use Rattle.processes.proofs.process.Goals as goal

pub returns : goal.returns
returns c =
    let mem = c.args.src.now.mem.files.now ++ c.args.src.now.mem.area.now in
    (cc, process_written mem c.args.t (parts c.args.src.now.scope.over.now c.args.src.now.scope.from) c.args.src.now.top.now (kept_in c.args.src.now.design.index.job.now mem c.args.ports.now.rows.now c.args.ports.now.n) c.args.i _ _ _ _ _ _ c.put_head.ensures.1 c.each_port.ensures.1 c.put.ensures.1 c.each_port-2.ensures.1 c.put-2.ensures.1)
