-- `names::part::stepped_part` meets its contract: what is left of the first part is what is left of w. Assumes nothing.
use mathlib.Core.List.{◌++◌}
use Rattle.names.specs.Name.{name_of}
use Rattle.names.specs.Parts.{parts, behind}
use Rattle.names.proofs.Parted.{Takes}
use Rattle.names.proofs.part.stepped_part.Given as goal

abbrev pub invariant-loop-c : goal.invariant-loop-c
invariant-loop-c l = Takes (l.mem.files.now ++ l.mem.area.now) l.w (behind l.w (parts (name_of (l.mem.files.now ++ l.mem.area.now) l.initial.x))) l.x l.c-index
