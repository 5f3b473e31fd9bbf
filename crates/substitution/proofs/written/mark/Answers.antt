-- `substitution::written::mark` meets its contract. Assumes nothing.
use Rattle.substitution.proofs.Runs.{marks}
use Rattle.substitution.proofs.written.mark.Goals as goal

pub dropped-e-requires : goal.dropped-e-requires
dropped-e-requires c = search marks

pub overflow_add-k : goal.overflow_add-k
overflow_add-k c = search marks

pub bounds-body-k : goal.bounds-body-k
bounds-body-k c = search marks

pub overflow_add-result : goal.overflow_add-result
overflow_add-result c = search marks

pub overflow_add-result-then-body-k : goal.overflow_add-result-then-body-k
overflow_add-result-then-body-k c = search marks

pub returns-then-body-k : goal.returns-then-body-k
returns-then-body-k c = search marks

pub returns-then-at-body : goal.returns-then-at-body
returns-then-at-body c = search marks

pub returns : goal.returns
returns c = search marks
