-- `elements::slot` meets its contract: what is left of the element falls. Assumes nothing.
use lib.ListN.{length}
use mathlib.Core.List.{◌++◌}
use Rattle.names.specs.Name.{name_of}
use Rattle.elements.proofs.slot.Given as goal

abbrev pub invariant-loop-b : goal.invariant-loop-b
invariant-loop-b l = Unit {0}

abbrev pub decreases-loop-b : goal.decreases-loop-b
decreases-loop-b l = length (name_of (l.mem.files.now ++ l.mem.area.now) l.x)
