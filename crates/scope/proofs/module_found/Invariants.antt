use Rattle.scope.proofs.Turns.{Way}
use Rattle.scope.proofs.module_found.Given as goal

abbrev pub invariant-loop-name : goal.invariant-loop-name
invariant-loop-name l = Way l.design.index.job.now l.design.index.rows.now l.design.count l.k l.names l.row l.name-index
