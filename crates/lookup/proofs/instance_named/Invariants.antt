use Rattle.jobindex.specs.Index.{module_row}
use Rattle.design.specs.Lookup.{instance_named}
use Rattle.lookup.proofs.Turns.{named_in}
use Prim.Native.Nat.{◌-◌}
use mathlib.Core.Path.{◌≡◌}
use Rattle.lookup.proofs.instance_named.Given as goal

abbrev pub invariant-loop-inst : goal.invariant-loop-inst
invariant-loop-inst l = instance_named (module_row l.index.job.now l.index.rows.now l.k) l.name ≡ named_in l.index.job.now l.at l.end l.name

abbrev pub decreases-loop-inst : goal.decreases-loop-inst
decreases-loop-inst l = l.end - l.at
