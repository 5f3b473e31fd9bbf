-- `switches::on::put_ons` meets its contract: what is left of the states is written behind what was. Assumes nothing.
use Prim.Native.Nat.{◌-◌}
use mathlib.Core.Path.{◌≡◌}
use lib.ListN.{length}
use mathlib.Core.List.{◌++◌, map}
use Rattle.out.specs.Emit.{emit}
use Rattle.out.specs.Text.{shown, SameRoom}
use Rattle.nametable.specs.Table.{table_names}
use Rattle.model.specs.Commands.{controls_of}
use Rattle.scope.specs.Parts.{parts}
use Rattle.conditions.specs.Controls.{scope_setting}
use Rattle.out.specs.Items.{joined}
use Rattle.switches.specs.Words.{ons_from}
use Rattle.switches.specs.Texts.{on_text}
use Rattle.switches.proofs.Ons.{OnLoop}
use Rattle.switches.proofs.on.put_ons.Given as goal

abbrev pub invariant-loop-k : goal.invariant-loop-k
invariant-loop-k l = SameRoom l.initial.to l.to × OnLoop (scope_setting (parts l.src.scope.over.now l.src.scope.from)) (controls_of (table_names (l.src.mem.files.now ++ l.src.mem.area.now) l.controls.rows.now l.controls.n)) (l.src.mem.files.now ++ l.src.mem.area.now) l.src.design.index.rows.now l.first l.n l.sep (emit (shown l.initial.to) (joined l.sep (map (on_text (scope_setting (parts l.src.scope.over.now l.src.scope.from)) (controls_of (table_names (l.src.mem.files.now ++ l.src.mem.area.now) l.controls.rows.now l.controls.n))) (ons_from (l.src.mem.files.now ++ l.src.mem.area.now) l.src.design.index.rows.now l.first l.n)))) (shown l.to) l.k
