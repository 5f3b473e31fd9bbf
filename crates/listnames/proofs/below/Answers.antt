-- `listnames::below` meets its contract. Assumes nothing.
use Rattle.listnames.proofs.Turns.{rooms_reads, listed_value}
use Rattle.listnames.proofs.below.Goals as goal

pub put_below-requires : goal.put_below-requires
put_below-requires c = search rooms_reads

pub returns : goal.returns
returns c = search listed_value
