-- `reportlines::shifter_lines` meets its contract: the lines of the shifters left are written behind what was. Assumes nothing.
use Prim.Native.Nat.{◌-◌}
use mathlib.Core.Path.{◌≡◌}
use mathlib.Core.List.{◌++◌, map}
use lib.ListN.{length, take}
use Rattle.out.specs.Emit.{emit}
use Rattle.out.specs.Text.{shown, SameRoom}
use Rattle.out.specs.Items.{each}
use Rattle.texts.specs.Texts.{shifter_line}
use Rattle.store.specs.View.{shifter_of}
use Rattle.reportlines.proofs.Shifters.{Lines}
use Rattle.reportlines.proofs.shifter_lines.Given as goal

abbrev pub invariant-loop-i : goal.invariant-loop-i
invariant-loop-i l = SameRoom l.initial.to l.to × Lines (l.mem.files.now ++ l.mem.area.now) l.t (emit (shown l.initial.to) (each shifter_line (map (shifter_of (l.mem.files.now ++ l.mem.area.now)) (take l.t.n l.t.all)))) (shown l.to) l.i
