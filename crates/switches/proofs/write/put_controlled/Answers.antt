use borrow.Author.Rules.{rules}
use Rattle.switches.proofs.Lines.{pairs_start, pairs_index, pairs_row, pairs_two, pairs_next, pairs_done}
use Rattle.switches.proofs.write.put_controlled.Goals as goal

pub loop-i-init : goal.loop-i-init
loop-i-init c = (search rules, search pairs_start)

pub overflow_add-i : goal.overflow_add-i
overflow_add-i c = search pairs_index

pub pair_at-requires : goal.pair_at-requires
pair_at-requires c = search pairs_row

pub overflow_add-i-in-loop-i : goal.overflow_add-i-in-loop-i
overflow_add-i-in-loop-i c = search pairs_two

pub loop-i-preserved : goal.loop-i-preserved
loop-i-preserved c = (cc, pairs_next _ _ _ _ _ _ _ c.loop-i.invariant.1 _ _ c.pair_at.ensures.1 c.unless.ensures.1 c.loop-i-test.true)

pub returns : goal.returns
returns c = search pairs_done
