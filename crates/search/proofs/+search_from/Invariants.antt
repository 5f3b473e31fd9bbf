use Rattle.search.proofs.Turns.{Left}
use Prim.Native.Nat.{◌-◌}
use Rattle.search.proofs.+search_from.Given as goal

abbrev pub decreases-search_from : goal.decreases-search_from
decreases-search_from l = l.left

abbrev pub invariant-loop-inst : goal.invariant-loop-inst
invariant-loop-inst l = Left l.design.index.job.now l.design.index.rows.now l.design.count l.kind l.k l.left l.calls l.made l.at l.end

abbrev pub decreases-loop-inst : goal.decreases-loop-inst
decreases-loop-inst l = l.end - l.at
