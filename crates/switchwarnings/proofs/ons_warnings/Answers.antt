use borrow.Author.Rules.{rules}
use Rattle.switchwarnings.proofs.States.{ons_start, ons_fits, ons_low, ons_reads, ons_next, ons_told}
use Rattle.switchwarnings.proofs.ons_warnings.Goals as goal

pub loop-k-init : goal.loop-k-init
loop-k-init c = (search rules, (search rules, search ons_start))

pub overflow_add-first : goal.overflow_add-first
overflow_add-first c = search ons_fits

pub word_at-v-requires : goal.word_at-v-requires
word_at-v-requires c = ons_low _ _ _ _ _ _ _ c.requires.0 c.wide-first.ensures c.wide-n.ensures c.loop-k-test.true

pub state_warnings-told-requires : goal.state_warnings-told-requires
state_warnings-told-requires c = ons_reads _ _ _ _ _ _ _ _ _ _ c.loop-k.invariant.1.1 _ _ _ _ _ _ _ c.requires.0 c.requires.1.0 c.wide-first.ensures c.wide-n.ensures c.from.ensures c.word_at-v.ensures c.loop-k-test.true

pub loop-k-preserved : goal.loop-k-preserved
loop-k-preserved c = (search rules, (search rules, ons_next _ _ _ _ _ _ _ _ _ _ c.loop-k.invariant.1.1 _ _ _ _ c.state_warnings-told.ensures.1 c.from.ensures c.word_at-v.ensures c.loop-k-test.true))

pub returns : goal.returns
returns c = (search rules, ons_told _ _ _ _ _ _ _ _ _ _ c.loop-k.invariant.1.1 _ _ _ c.loop-k-test.false c.loop-k.invariant.1.0 c.requires.0 c.wide-first.ensures c.wide-n.ensures)
