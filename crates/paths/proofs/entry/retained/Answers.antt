use Rattle.paths.proofs.Entries.{amongs}
use Rattle.paths.proofs.entry.retained.Goals as goal

pub returns-then-below-elen : goal.returns-then-below-elen
returns-then-below-elen c = search amongs

pub loop-k-init : goal.loop-k-init
loop-k-init c = search amongs

pub row-y-requires : goal.row-y-requires
row-y-requires c = search amongs

pub is_entry-requires : goal.is_entry-requires
is_entry-requires c = search amongs

pub returns-then-is_entry : goal.returns-then-is_entry
returns-then-is_entry c = search amongs

pub loop-k-preserved : goal.loop-k-preserved
loop-k-preserved c = search amongs

pub returns : goal.returns
returns c = search amongs
