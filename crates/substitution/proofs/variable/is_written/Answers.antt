use mathlib.Core.Path.{refl}
use Rattle.substitution.proofs.Names.{nameds}
use Rattle.substitution.proofs.variable.is_written.Goals as goal

pub loop-b-init : goal.loop-b-init
loop-b-init c = record { keeps = refl }

pub first-requires : goal.first-requires
first-requires c = search nameds

pub dropped-e-requires : goal.dropped-e-requires
dropped-e-requires c = search nameds

pub overflow_add-k : goal.overflow_add-k
overflow_add-k c = search nameds

pub bounds-body-k : goal.bounds-body-k
bounds-body-k c = search nameds

pub returns-then-body-k : goal.returns-then-body-k
returns-then-body-k c = search nameds

pub overflow_add-i : goal.overflow_add-i
overflow_add-i c = search nameds

pub overflow_sub-left : goal.overflow_sub-left
overflow_sub-left c = search nameds

pub loop-b-smaller : goal.loop-b-smaller
loop-b-smaller c = search nameds

pub loop-b-preserved : goal.loop-b-preserved
loop-b-preserved c = search nameds

pub returns-then-left-body : goal.returns-then-left-body
returns-then-left-body c = search nameds

pub returns : goal.returns
returns c = search nameds
