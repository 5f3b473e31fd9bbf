-- `tablecmds::table` meets its contract. Assumes nothing.
use Rattle.tablecmds.proofs.Laws.{tables}
use Rattle.tablecmds.proofs.table.Goals as goal

pub narrow-requires : goal.narrow-requires
narrow-requires c = search tables

pub or_empty-requires : goal.or_empty-requires
or_empty-requires c = search tables

pub returns : goal.returns
returns c = search tables
