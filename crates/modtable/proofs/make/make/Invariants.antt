-- `modtable::make::make` meets its contract: the modules before k are stored. Assumes nothing.
use Rattle.modtable.proofs.Modules.{Made}
use Rattle.modtable.proofs.make.make.Given as goal

abbrev pub invariant-loop-k : goal.invariant-loop-k
invariant-loop-k l = Made l.design.index.job.now l.design.index.rows.now l.design.count l.initial.inputs l.inputs l.initial.table l.table l.k
