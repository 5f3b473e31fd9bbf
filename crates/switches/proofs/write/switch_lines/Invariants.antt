-- `switches::write::switch_lines` meets its contract: what is left of the switches is written behind what was. Assumes nothing.
use Prim.Native.Nat.{◌-◌}
use mathlib.Core.Path.{◌≡◌}
use lib.ListN.{length, take}
use mathlib.Core.List.{[], ◌++◌, map}
use Rattle.out.specs.Emit.{emit}
use Rattle.out.specs.Text.{shown, SameRoom}
use Rattle.out.specs.Items.{each}
use Rattle.texts.specs.Switches.{switch_line}
use Rattle.store.specs.View.{switch_of}
use Rattle.switches.proofs.Glue.{Eaches}
use Rattle.switches.proofs.write.switch_lines.Given as goal

abbrev pub invariant-loop-i : goal.invariant-loop-i
invariant-loop-i l = SameRoom l.initial.to l.to × Eaches switch_line (switch_of (l.src.mem.files.now ++ l.src.mem.area.now) []) l.t.all l.t.n (emit (shown l.initial.to) (each switch_line (map (switch_of (l.src.mem.files.now ++ l.src.mem.area.now) []) (take l.t.n l.t.all)))) (shown l.to) l.i
