-- `reportlines::read_warnings` meets its contract: the warnings among the rows left are written behind what was. Assumes nothing.
use Prim.Native.Nat.{◌-◌}
use mathlib.Core.Path.{◌≡◌}
use mathlib.Core.List.{◌++◌, map}
use lib.ListN.{length}
use Rattle.out.specs.Emit.{emit}
use Rattle.out.specs.Text.{shown, SameRoom}
use Rattle.out.specs.Items.{each}
use Rattle.texts.specs.Texts.{warning_line}
use Rattle.store.specs.View.{warnings_in, warning_text}
use Rattle.store.specs.Rows.{rows_in}
use Rattle.reportlines.proofs.Warnings.{Lines}
use Rattle.reportlines.proofs.read_warnings.Given as goal

abbrev pub invariant-loop-i : goal.invariant-loop-i
invariant-loop-i l = SameRoom l.initial.to l.to × Lines (l.mem.files.now ++ l.mem.area.now) l.nums l.rows (emit (shown l.initial.to) (each warning_line (map (warning_text (l.mem.files.now ++ l.mem.area.now)) (warnings_in (rows_in l.nums l.rows))))) (shown l.to) l.i
