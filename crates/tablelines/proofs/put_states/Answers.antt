use mathlib.Core.Path.{refl}
use borrow.Author.Rules.{rules}
use Rattle.tablelines.proofs.States.{joins_start, row_few, joins_state, joins_next, joins_other, joins_done}
use Rattle.tablelines.proofs.put_states.Goals as goal

pub loop-i-init : goal.loop-i-init
loop-i-init c = (refl, (search rules, search joins_start))

pub row_at-r-requires : goal.row_at-r-requires
row_at-r-requires c = search row_few

pub put_state-requires : goal.put_state-requires
put_state-requires c = search joins_state

pub loop-i-preserved : goal.loop-i-preserved
loop-i-preserved c = (search rules, (search rules, search joins_next))

pub loop-i-preserved-then-not-is_state : goal.loop-i-preserved-then-not-is_state
loop-i-preserved-then-not-is_state c = (search rules, (search rules, search joins_other))

pub returns : goal.returns
returns c = search joins_done
