-- `tablelines::table_lines` meets its contract: the lines of the tables left are written behind what was. Assumes nothing.
use Prim.Native.Nat.{◌-◌}
use mathlib.Core.Path.{◌≡◌}
use mathlib.Core.List.{◌++◌}
use lib.ListN.{length, take}
use Rattle.out.specs.Emit.{emit}
use Rattle.out.specs.Text.{shown, SameRoom}
use Rattle.out.specs.Items.{each}
use Rattle.texts.specs.Texts.{table_line}
use Rattle.store.specs.View.{table_of, numbered}
use Rattle.store.specs.Rows.{rows_in}
use Rattle.tablelines.proofs.Lines.{Lines}
use Rattle.tablelines.proofs.table_lines.Given as goal

abbrev pub invariant-loop-i : goal.invariant-loop-i
invariant-loop-i l = SameRoom l.initial.to l.to × Lines (l.mem.files.now ++ l.mem.area.now) l.nums l.rows l.t (emit (shown l.initial.to) (each table_line (numbered (table_of (l.mem.files.now ++ l.mem.area.now) (rows_in l.nums l.rows)) 0 (take l.t.n l.t.all)))) (shown l.to) l.i
