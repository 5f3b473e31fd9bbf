-- `modtable::make::put_ways` meets its contract: the instances stored so far, and those of the lines left, are all. Assumes nothing.
use Prim.Native.Nat.{◌-◌}
use Rattle.modtable.proofs.Ways.{WaysOn}
use Rattle.modtable.proofs.make.put_ways.Given as goal

abbrev pub invariant-loop-inst : goal.invariant-loop-inst
invariant-loop-inst l = WaysOn l.design.index.job.now l.design.index.rows.now l.design.count l.k l.initial.table l.table l.at l.end l.j

abbrev pub decreases-loop-inst : goal.decreases-loop-inst
decreases-loop-inst l = l.end - l.at
