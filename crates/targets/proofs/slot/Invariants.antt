-- `targets::slot` meets its contract: what is left of the text falls. Assumes nothing.
use lib.ListN.{length}
use mathlib.Core.List.{◌++◌}
use Rattle.refs.specs.Text.{text_of}
use Rattle.targets.proofs.slot.Given as goal

abbrev pub invariant-loop-b : goal.invariant-loop-b
invariant-loop-b l = Unit {0}

abbrev pub decreases-loop-b : goal.decreases-loop-b
decreases-loop-b l = length (text_of l.job (l.mem.files.now ++ l.mem.area.now) l.x)
