-- `processes::processes` meets its contract: what is left to write, written from here, is the answer. Assumes nothing.
use mathlib.Core.List.{◌++◌, map}
use Rattle.out.specs.Emit.{emit}
use Rattle.out.specs.Text.{shown, SameRoom}
use Rattle.scope.specs.Parts.{parts}
use Rattle.texts.specs.Isolation.{processes}
use Rattle.isolated.specs.Table.{kept_in}
use Rattle.alike.specs.Strategies.{strategy_at}
use Rattle.alike.specs.Shown.{shown as port_shown}
use Rattle.processes.proofs.Texts.{Leads}
use Prim.Native.Nat.{◌-◌}
use mathlib.Core.Path.{◌≡◌}
use lib.ListN.{length}
use Rattle.processes.proofs.processes.Given as goal

abbrev pub invariant-loop-k : goal.invariant-loop-k
invariant-loop-k l = SameRoom l.initial.to l.to × Leads l.src.design.index.job.now (l.src.mem.files.now ++ l.src.mem.area.now) (parts l.src.scope.over.now l.src.scope.from) l.src.top.now l.t l.ports.rows.now l.ports.n (emit (shown l.initial.to) (processes (map (port_shown (parts l.src.scope.over.now l.src.scope.from) l.src.top.now (strategy_at (l.src.mem.files.now ++ l.src.mem.area.now) l.t)) (kept_in l.src.design.index.job.now (l.src.mem.files.now ++ l.src.mem.area.now) l.ports.rows.now l.ports.n)))) (shown l.to) l.k l.s
