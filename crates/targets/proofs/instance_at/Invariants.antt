-- `targets::instance_at` meets its contract: the instance looked for is the first of those that are left. Assumes nothing.
use Prim.Native.Nat.{◌-◌}
use mathlib.Core.List.{◌++◌}
use Rattle.memo.specs.Known.{Begins}
use Rattle.names.specs.Parts.{parts, first_part}
use Rattle.refs.specs.Text.{text_of}
use Rattle.targets.proofs.instance_at.Given as goal

abbrev pub invariant-loop-inst : goal.invariant-loop-inst
invariant-loop-inst l = Begins l.index.job.now l.index.rows.now l.k (first_part (parts (text_of l.index.job.now (l.mem.files.now ++ l.mem.area.now) l.r))) l.at

abbrev pub decreases-loop-inst : goal.decreases-loop-inst
decreases-loop-inst l = l.end - l.at
