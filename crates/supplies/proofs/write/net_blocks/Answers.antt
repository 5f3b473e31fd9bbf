use borrow.Author.Rules.{rules}
use Rattle.supplies.proofs.Written.{blocks_start, each_next, each_done}
use Rattle.supplies.proofs.write.net_blocks.Goals as goal

pub loop-k-init : goal.loop-k-init
loop-k-init c = (search rules, search blocks_start)

pub loop-k-preserved : goal.loop-k-preserved
loop-k-preserved c = (search rules, search each_next)

pub returns : goal.returns
returns c = search each_done
