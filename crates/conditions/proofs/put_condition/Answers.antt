use mathlib.Core.Path.{refl}
use borrow.Author.Rules.{rules}
use Rattle.names.specs.Laws.{shorter}
use Rattle.conditions.proofs.Written.{condition_end, condition_on, condition_over, condition_less}
use Rattle.conditions.proofs.put_condition.Goals as goal

pub loop-b-init : goal.loop-b-init
loop-b-init c = (refl, record { keeps = refl })

pub loop-b-preserved-then-is_variable : goal.loop-b-preserved-then-is_variable
loop-b-preserved-then-is_variable c = (search rules, search condition_over)

pub loop-b-preserved : goal.loop-b-preserved
loop-b-preserved c = (search rules, search condition_on)

pub loop-b-smaller-then-is_variable : goal.loop-b-smaller-then-is_variable
loop-b-smaller-then-is_variable c = search condition_less

pub returns : goal.returns
returns c = (search rules, search condition_end)
