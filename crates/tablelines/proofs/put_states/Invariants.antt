-- `tablelines::put_states` meets its contract: the states among the rows left are written behind what was. Assumes nothing.
use Prim.Native.Nat.{◌≤◌, ◌-◌}
use mathlib.Core.Path.{◌≡◌}
use mathlib.Core.List.{◌++◌, map, flat_map}
use lib.ListN.{length}
use Rattle.out.specs.Emit.{emit}
use Rattle.out.specs.Text.{shown, SameRoom}
use Rattle.out.specs.Items.{joined}
use Rattle.texts.specs.Texts.{table_state}
use Rattle.store.specs.View.{states_of}
use Rattle.store.specs.Rows.{rows_in}
use Rattle.tablelines.proofs.States.{Joins}
use Rattle.tablelines.proofs.put_states.Given as goal

abbrev pub invariant-loop-i : goal.invariant-loop-i
invariant-loop-i l = SameRoom l.initial.to l.to
    × ((l.n ≤ l.i) × Joins l.sep (l.mem.files.now ++ l.mem.area.now) l.nums l.rows l.k (emit (shown l.initial.to) (joined l.sep (map table_state (flat_map (states_of (l.mem.files.now ++ l.mem.area.now) l.k) (rows_in l.nums l.rows))))) (shown l.to) l.n l.i)
