-- `conditions::put_condition` meets its contract: what is left of the condition is written behind what was. Assumes nothing.
use mathlib.Core.Path.{◌≡◌}
use lib.ListN.{length}
use mathlib.Core.List.{◌++◌}
use Rattle.out.specs.Emit.{emit}
use Rattle.out.specs.Text.{shown, SameRoom}
use Rattle.names.specs.Name.{name_of}
use Rattle.nametable.specs.Table.{table_names}
use Rattle.scope.specs.Parts.{parts}
use Rattle.model.specs.Commands.{controls_of}
use Rattle.texts.specs.Switches.{condition}
use Rattle.conditions.specs.Controls.{scope_setting}
use Rattle.conditions.proofs.Written.{Conditions}
use Rattle.conditions.proofs.put_condition.Given as goal

abbrev pub invariant-loop-b : goal.invariant-loop-b
invariant-loop-b l = SameRoom l.initial.to l.to × Conditions (scope_setting (parts l.src.scope.over.now l.src.scope.from)) (controls_of (table_names (l.src.mem.files.now ++ l.src.mem.area.now) l.controls.rows.now l.controls.n)) (l.src.mem.files.now ++ l.src.mem.area.now) (emit (shown l.initial.to) (condition (scope_setting (parts l.src.scope.over.now l.src.scope.from)) (controls_of (table_names (l.src.mem.files.now ++ l.src.mem.area.now) l.controls.rows.now l.controls.n)) (name_of (l.src.mem.files.now ++ l.src.mem.area.now) l.initial.x))) (shown l.to) l.x

abbrev pub decreases-loop-b : goal.decreases-loop-b
decreases-loop-b l = length (name_of (l.src.mem.files.now ++ l.src.mem.area.now) l.x)
