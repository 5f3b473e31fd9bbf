-- `domainline::put_entries` meets its contract: what is left of the entries is written behind what was. Assumes nothing.
use Prim.Native.Nat.{◌-◌}
use mathlib.Core.Path.{◌≡◌}
use mathlib.Core.List.{◌++◌, map}
use lib.ListN.{length}
use Rattle.out.specs.Emit.{emit}
use Rattle.out.specs.Text.{shown, SameRoom}
use Rattle.out.specs.Items.{joined}
use Rattle.nametable.specs.Table.{table_names}
use Rattle.design.specs.Paths.{retained_path}
use Rattle.scope.specs.Parts.{parts}
use Rattle.domainline.proofs.Written.{Joins}
use Rattle.domainline.proofs.put_entries.Given as goal

abbrev pub invariant-loop-k : goal.invariant-loop-k
invariant-loop-k l = SameRoom l.initial.to l.to
    × Joins l.sep (l.mem.files.now ++ l.mem.area.now) (parts l.scope.over.now l.scope.from) l.table.rows.now l.table.n (emit (shown l.initial.to) (joined l.sep (map (retained_path (parts l.scope.over.now l.scope.from)) (table_names (l.mem.files.now ++ l.mem.area.now) l.table.rows.now l.table.n)))) (shown l.to) l.k
