use Rattle.entries.proofs.Items.{counts}
use Rattle.entries.proofs.item.count.Goals as goal

pub loop-item-init : goal.loop-item-init
loop-item-init c = search counts

pub overflow_add-n : goal.overflow_add-n
overflow_add-n c = search counts
