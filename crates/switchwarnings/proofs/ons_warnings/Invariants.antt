-- `switchwarnings::ons_warnings` meets its contract: the warnings about the states that are left are told behind those that were. Assumes nothing.
use Prim.Native.Nat.{◌≤◌}
use mathlib.Core.List.{◌++◌}
use Rattle.out.specs.Text.{shown, SameRoom}
use Rattle.tcl.specs.Lists.{list}
use Rattle.nametable.specs.Table.{table_names}
use Rattle.scope.specs.Parts.{parts}
use Rattle.model.specs.Commands.{nth, controls_of}
use Rattle.store.specs.Strings.{string}
use Rattle.conditions.specs.Controls.{scope_setting}
use Rattle.switches.specs.Texts.{on_remarks}
use Rattle.switchwarnings.proofs.States.{OnsTold}
use Rattle.switchwarnings.proofs.ons_warnings.Given as goal

abbrev pub invariant-loop-k : goal.invariant-loop-k
invariant-loop-k l = SameRoom l.initial.to l.to × ((l.k ≤ l.n) × OnsTold (on_remarks (scope_setting (parts l.src.scope.over.now l.src.scope.from)) (string (l.src.mem.files.now ++ l.src.mem.area.now) l.w.name) (nth 0 (list (string (l.src.mem.files.now ++ l.src.mem.area.now) l.w.input))) (controls_of (table_names (l.src.mem.files.now ++ l.src.mem.area.now) l.controls.rows.now l.controls.n))) (l.src.mem.files.now ++ l.src.mem.area.now) l.src.design.index.rows.now l.first l.n (shown l.initial.to) l.initial.told (shown l.to) l.told l.k)
