-- `processes::is_led` meets its contract: none of the ports passed is of a strategy like this one. Assumes nothing.
use mathlib.Core.List.{◌++◌}
use Rattle.alike.specs.Strategies.{strategy_at}
use Rattle.processes.proofs.Led.{Seeks}
use Prim.Native.Nat.{◌-◌}
use Rattle.processes.proofs.is_led.Given as goal

abbrev pub invariant-loop-k : goal.invariant-loop-k
invariant-loop-k l = Seeks (strategy_at (l.mem.files.now ++ l.mem.area.now) l.t) l.ports.rows.now l.ports.n l.i l.k l.s
