-- `substitution::written::dropped` meets its contract. Assumes nothing.
use Rattle.substitution.proofs.Runs.{drops}
use Rattle.substitution.proofs.written.dropped.Goals as goal

pub overflow_add-i : goal.overflow_add-i
overflow_add-i c = search drops

pub bounds-body-i : goal.bounds-body-i
bounds-body-i c = search drops

pub returns-then-quoted-body : goal.returns-then-quoted-body
returns-then-quoted-body c = search drops

pub returns-then-i-body : goal.returns-then-i-body
returns-then-i-body c = search drops

pub returns : goal.returns
returns c = search drops
