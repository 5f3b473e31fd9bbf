-- `lists::and_switch` meets its contract. Assumes nothing.
use Rattle.lists.proofs.Laws.{switches}
use Rattle.lists.proofs.and_switch.Goals as goal

pub and_option-c1-requires : goal.and_option-c1-requires
and_option-c1-requires c = search switches

pub and_states-c2-requires : goal.and_states-c2-requires
and_states-c2-requires c = search switches

pub and_option-c3-requires : goal.and_option-c3-requires
and_option-c3-requires c = search switches

pub and_option-requires : goal.and_option-requires
and_option-requires c = search switches

pub returns : goal.returns
returns c = search switches
