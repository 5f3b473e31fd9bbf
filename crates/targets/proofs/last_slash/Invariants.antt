-- `targets::last_slash` meets its contract. Assumes nothing.
use mathlib.Core.List.{◌++◌}
use lib.ListN.{length}
use Rattle.names.specs.Name.{name_of}
use Rattle.targets.proofs.Slashes.{Scans}
use Rattle.targets.proofs.last_slash.Given as goal

abbrev pub invariant-loop-b : goal.invariant-loop-b
invariant-loop-b l = Scans l.mem.files.now l.mem.area.now l.initial.x l.s l.x l.n

abbrev pub decreases-loop-b : goal.decreases-loop-b
decreases-loop-b l = length (name_of (l.mem.files.now ++ l.mem.area.now) l.x)
