-- `plain::counted` meets its contract. Assumes nothing.
use Rattle.plain.proofs.Counts.{counts}
use Rattle.plain.proofs.counted.Goals as goal

pub returns-then-commands-gt1024 : goal.returns-then-commands-gt1024
returns-then-commands-gt1024 c = search counts

pub entries-requires : goal.entries-requires
entries-requires c = search counts

pub returns : goal.returns
returns c = search counts
