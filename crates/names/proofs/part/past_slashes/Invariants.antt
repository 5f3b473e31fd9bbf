-- `names::part::past_slashes` meets its contract: what is left has the same bytes behind its slashes. Assumes nothing.
use mathlib.Core.List.{◌++◌}
use lib.ListN.{length}
use Rattle.names.specs.Name.{name_of}
use Rattle.names.specs.Parts.{unslashed}
use Rattle.names.proofs.Parted.{Trims}
use Rattle.names.proofs.part.past_slashes.Given as goal

abbrev pub invariant-loop-b : goal.invariant-loop-b
invariant-loop-b l = Trims (l.mem.files.now ++ l.mem.area.now) (unslashed (name_of (l.mem.files.now ++ l.mem.area.now) l.initial.x)) l.x

abbrev pub decreases-loop-b : goal.decreases-loop-b
decreases-loop-b l = length (name_of (l.mem.files.now ++ l.mem.area.now) l.x)
