-- `targets::stepped_part` meets its contract: what is left of the first part is what is left of w. Assumes nothing.
use mathlib.Core.List.{◌++◌}
use Rattle.names.specs.Parts.{parts, behind}
use Rattle.refs.specs.Text.{text_of}
use Rattle.targets.proofs.Parted.{Takes}
use Rattle.targets.proofs.stepped_part.Given as goal

abbrev pub invariant-loop-own : goal.invariant-loop-own
invariant-loop-own l = Takes l.job (l.mem.files.now ++ l.mem.area.now) l.w (behind l.w (parts (text_of l.job (l.mem.files.now ++ l.mem.area.now) l.initial.x))) l.x l.own-index
