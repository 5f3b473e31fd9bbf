-- `plaincmds::retention` meets its contract. Assumes nothing.
use Rattle.plaincmds.proofs.Laws.{plain}
use Rattle.plaincmds.proofs.retention.Goals as goal

pub narrow-requires : goal.narrow-requires
narrow-requires c = search plain

pub or_empty-requires : goal.or_empty-requires
or_empty-requires c = search plain

pub or_empty-requires-2 : goal.or_empty-requires-2
or_empty-requires-2 c = search plain

pub returns : goal.returns
returns c = search plain
