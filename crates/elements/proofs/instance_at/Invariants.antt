-- `elements::instance_at` meets its contract: the instance is looked for among those left. Assumes nothing.
use Prim.Native.Nat.{◌-◌}
use mathlib.Core.List.{◌++◌}
use Rattle.names.specs.Name.{name_of}
use Rattle.names.specs.Parts.{parts, first_part}
use Rattle.memo.specs.Known.{Begins}
use Rattle.elements.proofs.instance_at.Given as goal

abbrev pub invariant-loop-inst : goal.invariant-loop-inst
invariant-loop-inst l = Begins l.index.job.now l.index.rows.now l.k (first_part (parts (name_of (l.mem.files.now ++ l.mem.area.now) l.e))) l.at

abbrev pub decreases-loop-inst : goal.decreases-loop-inst
decreases-loop-inst l = l.end - l.at
