-- `tablecmds::create_pst` meets its contract. Assumes nothing.
use Rattle.tablecmds.proofs.Laws.{tables}
use Rattle.tablecmds.proofs.create_pst.Goals as goal

pub returns-then-b-ge32 : goal.returns-then-b-ge32
returns-then-b-ge32 c = search tables

pub returns : goal.returns
returns c = search tables
