-- `switches::write::put_controlled` meets its contract: what is left of the control ports is written behind what was. Assumes nothing.
use Prim.Native.Nat.{◌-◌}
use mathlib.Core.Path.{◌≡◌}
use lib.ListN.{length}
use mathlib.Core.List.{◌++◌, map}
use Rattle.out.specs.Emit.{emit}
use Rattle.out.specs.Text.{shown, SameRoom}
use Rattle.nametable.specs.Table.{table_names}
use Rattle.model.specs.Commands.{controls_of}
use Rattle.out.specs.Items.{joined}
use Rattle.switches.specs.Texts.{pair_text}
use Rattle.switches.proofs.Lines.{Pairs}
use Rattle.switches.proofs.write.put_controlled.Given as goal

abbrev pub invariant-loop-i : goal.invariant-loop-i
invariant-loop-i l = SameRoom l.initial.to l.to × Pairs l.sep (l.mem.files.now ++ l.mem.area.now) l.controls.rows.now l.controls.n (emit (shown l.initial.to) (joined l.sep (map pair_text (controls_of (table_names (l.mem.files.now ++ l.mem.area.now) l.controls.rows.now l.controls.n))))) (shown l.to) l.i

abbrev pub decreases-loop-i : goal.decreases-loop-i
decreases-loop-i l = l.controls.n - l.i
