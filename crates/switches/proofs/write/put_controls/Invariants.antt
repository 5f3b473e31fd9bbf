-- `switches::write::put_controls` meets its contract: what is left of the control ports is written behind what was. Assumes nothing.
use Prim.Native.Nat.{◌-◌}
use mathlib.Core.Path.{◌≡◌}
use lib.ListN.{length}
use mathlib.Core.List.{◌++◌}
use Rattle.out.specs.Emit.{emit}
use Rattle.out.specs.Text.{shown, SameRoom}
use Rattle.nametable.specs.Table.{table_names}
use Rattle.model.specs.Commands.{controls_of}
use Rattle.scope.specs.Parts.{parts}
use Rattle.conditions.specs.Controls.{scope_setting}
use Rattle.out.specs.Items.{each}
use Rattle.format.specs.Args.{arg_of}
use Rattle.switches.specs.Words.{ons_from}
use Rattle.switches.specs.Texts.{ons_text, control_text}
use Rattle.switches.proofs.Glue.{Turns}
use Rattle.switches.proofs.write.put_controls.Given as goal

abbrev pub invariant-loop-i : goal.invariant-loop-i
invariant-loop-i l = SameRoom l.initial.to l.to × Turns (control_text (parts l.src.scope.over.now l.src.scope.from) (ons_text (scope_setting (parts l.src.scope.over.now l.src.scope.from)) (controls_of (table_names (l.src.mem.files.now ++ l.src.mem.area.now) l.controls.rows.now l.controls.n)) (ons_from (l.src.mem.files.now ++ l.src.mem.area.now) l.src.design.index.rows.now l.first l.n)) (arg_of l.src.design.index.job.now (l.src.mem.files.now ++ l.src.mem.area.now) (parts l.src.scope.over.now l.src.scope.from) l.src.top.now l.c)) (l.src.mem.files.now ++ l.src.mem.area.now) l.controls.rows.now l.controls.n (emit (shown l.initial.to) (each (control_text (parts l.src.scope.over.now l.src.scope.from) (ons_text (scope_setting (parts l.src.scope.over.now l.src.scope.from)) (controls_of (table_names (l.src.mem.files.now ++ l.src.mem.area.now) l.controls.rows.now l.controls.n)) (ons_from (l.src.mem.files.now ++ l.src.mem.area.now) l.src.design.index.rows.now l.first l.n)) (arg_of l.src.design.index.job.now (l.src.mem.files.now ++ l.src.mem.area.now) (parts l.src.scope.over.now l.src.scope.from) l.src.top.now l.c)) (controls_of (table_names (l.src.mem.files.now ++ l.src.mem.area.now) l.controls.rows.now l.controls.n)))) (shown l.to) l.i

abbrev pub decreases-loop-i : goal.decreases-loop-i
decreases-loop-i l = l.controls.n - l.i
