-- `listnames::put_names` meets its contract: what is left of the names is written behind what was. Assumes nothing.
use Prim.Native.Nat.{◌-◌}
use mathlib.Core.List.{◌++◌}
use mathlib.Core.Path.{◌≡◌}
use lib.ListN.{length}
use Rattle.out.specs.Emit.{emit}
use Rattle.out.specs.Text.{shown, SameRoom}
use Rattle.out.specs.Items.{joined}
use Rattle.nametable.specs.Table.{table_names}
use Rattle.listnames.proofs.Turns.{Joins}
use Rattle.listnames.proofs.put_names.Given as goal

abbrev pub invariant-loop-k : goal.invariant-loop-k
invariant-loop-k l = SameRoom l.initial.to l.to × Joins l.sep (l.mem.files.now ++ l.mem.area.now) l.table.rows.now l.table.n (emit (shown l.initial.to) (joined l.sep (table_names (l.mem.files.now ++ l.mem.area.now) l.table.rows.now l.table.n))) (shown l.to) l.k
