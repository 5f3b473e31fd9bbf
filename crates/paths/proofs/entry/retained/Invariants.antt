-- `paths::entry::retained` meets its contract: whether the path is one of the entries left. Assumes nothing.
use Prim.Native.Nat.{◌-◌}
use mathlib.Core.List.{[], ◌++◌}
use Rattle.names.specs.Name.{name_of}
use Rattle.nametable.specs.Table.{table_names}
use Rattle.design.specs.Lists.{is_in}
use Rattle.design.specs.Paths.{dotted}
use Rattle.walk.specs.Walk.{retained_paths}
use Rattle.paths.specs.Pieces.{entries_below}
use Rattle.paths.proofs.Entries.{Among}
use Rattle.paths.proofs.entry.retained.Given as goal

abbrev pub invariant-loop-k : goal.invariant-loop-k
invariant-loop-k l = Among (l.mem.files.now ++ l.mem.area.now) (dotted (name_of (l.mem.files.now ++ l.mem.area.now) l.e) ++ l.tail) l.table.rows.now l.table.n (is_in (dotted (name_of (l.mem.files.now ++ l.mem.area.now) l.e) ++ l.tail) (retained_paths [] (entries_below l.below (table_names (l.mem.files.now ++ l.mem.area.now) l.table.rows.now l.table.n)))) l.k
