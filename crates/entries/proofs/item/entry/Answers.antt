use Rattle.entries.proofs.Items.{skips}
use Rattle.entries.proofs.item.entry.Goals as goal

pub loop-item-init : goal.loop-item-init
loop-item-init c = search skips
