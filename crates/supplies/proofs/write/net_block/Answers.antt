-- `supplies::write::net_block` meets its contract. Assumes nothing.
use Rattle.supplies.proofs.Written.{block_is}
use Rattle.supplies.proofs.write.net_block.Goals as goal

pub returns : goal.returns
returns c = search block_is
