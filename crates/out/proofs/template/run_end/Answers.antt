use Rattle.out.proofs.Plains.{plains}
use Rattle.out.proofs.template.run_end.Goals as goal

pub loop-i-init : goal.loop-i-init
loop-i-init c = search plains

pub overflow_sub-t : goal.overflow_sub-t
overflow_sub-t c = search plains

pub eight_plain-requires : goal.eight_plain-requires
eight_plain-requires c = search plains

pub run_end_each-requires : goal.run_end_each-requires
run_end_each-requires c = search plains

pub returns-then-not-eight_plain : goal.returns-then-not-eight_plain
returns-then-not-eight_plain c = search plains

pub overflow_add-i : goal.overflow_add-i
overflow_add-i c = search plains

pub loop-i-smaller : goal.loop-i-smaller
loop-i-smaller c = search plains

pub loop-i-preserved : goal.loop-i-preserved
loop-i-preserved c = search plains

pub run_end_each-requires-2 : goal.run_end_each-requires-2
run_end_each-requires-2 c = search plains

pub returns : goal.returns
returns c = search plains
