use borrow.Author.Rules.{rules}
use Rattle.switches.proofs.Ons.{ons_start, ons_fits, ons_low, ons_small, ons_rows, ons_whole, ons_step, ons_done}
use Rattle.switches.proofs.on.put_ons.Goals as goal

pub loop-k-init : goal.loop-k-init
loop-k-init c = (search rules, search ons_start)

pub overflow_add-first : goal.overflow_add-first
overflow_add-first c = search ons_fits

pub word_at-v-requires : goal.word_at-v-requires
word_at-v-requires c = search ons_low

pub put_one-requires : goal.put_one-requires
put_one-requires c = search (ons_small, ons_rows, ons_whole)

pub loop-k-preserved : goal.loop-k-preserved
loop-k-preserved c = (cc, search ons_step)

pub returns : goal.returns
returns c = search ons_done
