-- `listing::listed` meets its contract: whether the path is one of the rows left. Assumes nothing.
use mathlib.Core.List.{◌++◌}
use Rattle.names.specs.Name.{name_of}
use Rattle.design.specs.Lists.{is_in}
use Rattle.design.specs.Paths.{dotted}
use Rattle.listing.specs.Listing.{paths_of}
use Rattle.listing.proofs.Adds.{Left}
use Rattle.listing.proofs.listed.Given as goal

abbrev pub invariant-loop-k : goal.invariant-loop-k
invariant-loop-k l = Left (dotted (name_of (l.mem.files.now ++ l.mem.area.now) l.e) ++ (l.tail ++ l.name)) l.text l.ends l.count (is_in (dotted (name_of (l.mem.files.now ++ l.mem.area.now) l.e) ++ (l.tail ++ l.name)) (paths_of l.text l.ends l.count)) l.k l.at
