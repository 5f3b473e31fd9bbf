-- `processes::each_port` meets its contract: what is left to write, written from here, is the answer. Assumes nothing.
use mathlib.Core.List.{◌++◌}
use Rattle.out.specs.Emit.{emit}
use Rattle.out.specs.Text.{shown, SameRoom}
use Rattle.scope.specs.Parts.{parts}
use Rattle.isolated.specs.Table.{kept_in}
use Rattle.alike.specs.Strategies.{strategy_at}
use Rattle.processes.specs.Ports.{ports_text}
use Rattle.processes.proofs.Written.{Writes}
use Prim.Native.Nat.{◌-◌}
use mathlib.Core.Path.{◌≡◌}
use lib.ListN.{length}
use Rattle.processes.proofs.each_port.Given as goal

abbrev pub invariant-loop-k : goal.invariant-loop-k
invariant-loop-k l = SameRoom l.initial.to l.to × Writes l.src.design.index.job.now (l.src.mem.files.now ++ l.src.mem.area.now) (parts l.src.scope.over.now l.src.scope.from) l.src.top.now l.tpl l.t l.ports.rows.now l.ports.n l.i (emit (shown l.initial.to) (ports_text l.tpl (parts l.src.scope.over.now l.src.scope.from) l.src.top.now (strategy_at (l.src.mem.files.now ++ l.src.mem.area.now) l.t) l.i (kept_in l.src.design.index.job.now (l.src.mem.files.now ++ l.src.mem.area.now) l.ports.rows.now l.ports.n))) (shown l.to) l.k l.s
