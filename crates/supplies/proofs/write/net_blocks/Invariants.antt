-- `supplies::write::net_blocks` meets its contract: what is left of the nets is written behind what was. Assumes nothing.
use Prim.Native.Nat.{◌-◌}
use mathlib.Core.Path.{◌≡◌}
use lib.ListN.{length}
use mathlib.Core.List.{[], ◌++◌}
use Rattle.out.specs.Emit.{emit}
use Rattle.out.specs.Text.{shown, SameRoom}
use Rattle.nametable.specs.Table.{table_names}
use Rattle.scope.specs.Parts.{parts}
use Rattle.texts.specs.Supplies.{net_block, net_blocks}
use Rattle.supplies.specs.Seen.{nets_setting}
use Rattle.supplies.proofs.Written.{Each}
use Rattle.supplies.proofs.write.net_blocks.Given as goal

abbrev pub invariant-loop-k : goal.invariant-loop-k
invariant-loop-k l = SameRoom l.initial.to l.to × Each (net_block (nets_setting l.src.top.now (parts l.src.scope.over.now l.src.scope.from) [])) (l.src.mem.files.now ++ l.src.mem.area.now) l.table.rows.now l.table.n (emit (shown l.initial.to) (net_blocks (nets_setting l.src.top.now (parts l.src.scope.over.now l.src.scope.from) (table_names (l.src.mem.files.now ++ l.src.mem.area.now) l.table.rows.now l.table.n)))) (shown l.to) l.k
