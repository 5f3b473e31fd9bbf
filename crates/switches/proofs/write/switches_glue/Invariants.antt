-- `switches::write::switches_glue` meets its contract: what is left of the switches is written behind what was. Assumes nothing.
use Prim.Native.Nat.{◌-◌}
use mathlib.Core.Path.{◌≡◌}
use lib.ListN.{length, take}
use mathlib.Core.List.{◌++◌, map}
use Rattle.out.specs.Emit.{emit}
use Rattle.out.specs.Text.{shown, SameRoom}
use Rattle.out.specs.Items.{each}
use Rattle.texts.specs.Switches.{switch_glue}
use Rattle.switches.specs.Words.{switch_in}
use Rattle.scope.specs.Parts.{parts}
use Rattle.conditions.specs.Controls.{scope_setting}
use Rattle.switches.proofs.Glue.{Eaches}
use Rattle.switches.proofs.write.switches_glue.Given as goal

abbrev pub invariant-loop-i : goal.invariant-loop-i
invariant-loop-i l = SameRoom l.initial.to l.to × Eaches (switch_glue (scope_setting (parts l.src.scope.over.now l.src.scope.from))) (switch_in (l.src.mem.files.now ++ l.src.mem.area.now) l.src.design.index.rows.now) l.t.all l.t.n (emit (shown l.initial.to) (each (switch_glue (scope_setting (parts l.src.scope.over.now l.src.scope.from))) (map (switch_in (l.src.mem.files.now ++ l.src.mem.area.now) l.src.design.index.rows.now) (take l.t.n l.t.all)))) (shown l.to) l.i
