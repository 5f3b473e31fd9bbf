use borrow.Author.Rules.{rules}
use Rattle.substitution.proofs.Runs.{naming_start, namings, naming_step}
use Rattle.substitution.proofs.written.name_run.Goals as goal

pub loop-i-init : goal.loop-i-init
loop-i-init c = search naming_start

pub dropped-e-requires : goal.dropped-e-requires
dropped-e-requires c = search namings

pub overflow_add-k : goal.overflow_add-k
overflow_add-k c = search namings

pub bounds-body-k : goal.bounds-body-k
bounds-body-k c = search namings

pub is_variable-requires : goal.is_variable-requires
is_variable-requires c = search namings

pub overflow_add-n : goal.overflow_add-n
overflow_add-n c = search namings

pub overflow_add-i : goal.overflow_add-i
overflow_add-i c = search namings

pub overflow_add-i-then-is_variable : goal.overflow_add-i-then-is_variable
overflow_add-i-then-is_variable c = search namings

pub loop-i-smaller : goal.loop-i-smaller
loop-i-smaller c = search namings

pub loop-i-preserved : goal.loop-i-preserved
loop-i-preserved c = naming_step _ _ _ _ _ c.loop-i.invariant _ (search rules) (search rules) (search rules) _ (search rules) c.if-is_variable.true

pub returns-in-loop-i : goal.returns-in-loop-i
returns-in-loop-i c = search namings

pub returns : goal.returns
returns c = search namings
