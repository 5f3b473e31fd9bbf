-- `corrupt::own` meets its contract: the names from i on are left. Assumes nothing.
use mathlib.Core.List.{◌++◌, map}
use Rattle.names.specs.Name.{name_of}
use Rattle.design.specs.Lists.{add_all}
use Rattle.design.specs.Paths.{dotted}
use Rattle.listing.specs.Listing.{paths_of}
use Rattle.modtable.specs.Table.{names_of}
use Rattle.corrupt.proofs.OwnNames.{Names}
use Rattle.corrupt.proofs.own.Given as goal

abbrev pub invariant-loop-i : goal.invariant-loop-i
invariant-loop-i l = Names l.job l.table l.k (l.mem.files.now ++ l.mem.area.now) l.e l.elen l.h l.tail l.number l.prefix l.initial.w.entered (add_all (paths_of l.initial.text l.initial.ends l.initial.w.count) (map (λ n. dotted (name_of (l.mem.files.now ++ l.mem.area.now) l.e) ++ (l.tail ++ n)) (names_of l.job l.table l.k))) l.w l.text l.ends l.i
