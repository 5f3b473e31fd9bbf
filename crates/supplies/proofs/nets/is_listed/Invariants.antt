-- `supplies::nets::is_listed` meets its contract: whether the name is among those that are left. Assumes nothing.
use Prim.Native.Nat.{◌-◌}
use mathlib.Core.List.{◌++◌}
use Rattle.names.specs.Name.{name_of}
use Rattle.nametable.specs.Table.{table_names}
use Rattle.design.specs.Lists.{is_in}
use Rattle.supplies.proofs.Tables.{Looks}
use Rattle.supplies.proofs.nets.is_listed.Given as goal

abbrev pub invariant-loop-k : goal.invariant-loop-k
invariant-loop-k l = Looks (l.mem.files.now ++ l.mem.area.now) l.table.rows.now l.table.n (name_of (l.mem.files.now ++ l.mem.area.now) l.x) (is_in (name_of (l.mem.files.now ++ l.mem.area.now) l.x) (table_names (l.mem.files.now ++ l.mem.area.now) l.table.rows.now l.table.n)) l.k
