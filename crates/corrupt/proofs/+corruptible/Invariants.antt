-- `corrupt::corruptible` meets its contract: the whole is what was listed so far and what the instances left come to. Assumes nothing.
use mathlib.Core.List.{◌++◌}
use Rattle.nametable.specs.Table.{table_names}
use Rattle.design.specs.Lists.{add_all}
use Rattle.paths.specs.Pieces.{entries_below}
use Rattle.listing.specs.Listing.{paths_of}
use Rattle.corrupt.proofs.Rounds.{Round, row_visits, row_lists}
use Prim.Native.Nat.{◌+◌}
use Rattle.corrupt.proofs.+corruptible.Given as goal

abbrev pub decreases-corruptible : goal.decreases-corruptible
decreases-corruptible l = l.left

abbrev pub invariant-loop-j : goal.invariant-loop-j
invariant-loop-j l = Round l.job l.table l.k l.left (l.mem.files.now ++ l.mem.area.now) l.retained.n (entries_below l.below (table_names (l.mem.files.now ++ l.mem.area.now) l.retained.rows.now l.retained.n)) l.e l.elen l.h l.t l.u l.prefix l.initial.tail (l.initial.w.entered + row_visits l.job l.table l.k l.left (l.mem.files.now ++ l.mem.area.now) l.retained.n (entries_below l.below (table_names (l.mem.files.now ++ l.mem.area.now) l.retained.rows.now l.retained.n)) l.e l.elen l.h l.t l.u l.prefix l.initial.tail) (add_all (paths_of l.initial.text l.initial.ends l.initial.w.count) (row_lists l.job l.table l.k l.left (l.mem.files.now ++ l.mem.area.now) l.retained.n (entries_below l.below (table_names (l.mem.files.now ++ l.mem.area.now) l.retained.rows.now l.retained.n)) l.e l.elen l.h l.t l.u l.prefix l.initial.tail)) l.tail l.text l.ends l.w l.j
