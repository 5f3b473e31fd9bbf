-- `switchwarnings::condition_warnings` meets its contract: the warnings that are left are told behind those that were. Assumes nothing.
use lib.ListN.{length}
use mathlib.Core.List.{◌++◌}
use Rattle.out.specs.Text.{shown, SameRoom}
use Rattle.names.specs.Name.{name_of}
use Rattle.nametable.specs.Table.{table_names}
use Rattle.scope.specs.Parts.{parts}
use Rattle.model.specs.Commands.{controls_of}
use Rattle.conditions.specs.Controls.{scope_setting}
use Rattle.switchwarnings.proofs.Words.{Warns}
use Rattle.switchwarnings.proofs.condition_warnings.Given as goal

abbrev pub invariant-loop-b : goal.invariant-loop-b
invariant-loop-b l = SameRoom l.initial.to l.to × Warns (scope_setting (parts l.src.scope.over.now l.src.scope.from)) (controls_of (table_names (l.src.mem.files.now ++ l.src.mem.area.now) l.controls.rows.now l.controls.n)) (l.src.mem.files.now ++ l.src.mem.area.now) l.initial.x (shown l.initial.to) l.initial.told (shown l.to) l.told l.x

abbrev pub decreases-loop-b : goal.decreases-loop-b
decreases-loop-b l = length (name_of (l.src.mem.files.now ++ l.src.mem.area.now) l.x)
