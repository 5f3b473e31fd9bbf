-- `switchwarnings::switch_warnings` meets its contract: the warnings about the switches that are left are told behind those that were. Assumes nothing.
use Prim.Native.Nat.{◌≤◌}
use mathlib.Core.List.{◌++◌}
use Rattle.out.specs.Text.{shown, SameRoom}
use Rattle.scope.specs.Parts.{parts}
use Rattle.conditions.specs.Controls.{scope_setting}
use Rattle.switchwarnings.proofs.States.{AllTold}
use Rattle.switchwarnings.proofs.switch_warnings.Given as goal

abbrev pub invariant-loop-i : goal.invariant-loop-i
invariant-loop-i l = SameRoom l.initial.to l.to × ((l.i ≤ l.t.n) × AllTold (scope_setting (parts l.src.scope.over.now l.src.scope.from)) (l.src.mem.files.now ++ l.src.mem.area.now) l.src.design.index.rows.now l.t (shown l.initial.to) l.initial.told (shown l.to) l.told l.i)
