-- `listnames::entries` meets its contract. Assumes nothing.
use Rattle.listnames.proofs.Turns.{rooms_reads, listed_plain}
use Rattle.listnames.proofs.entries.Goals as goal

pub put_entries-requires : goal.put_entries-requires
put_entries-requires c = search rooms_reads

pub returns : goal.returns
returns c = search listed_plain
