-- `tablelines::table_line_by` meets its contract. Assumes nothing.
use Rattle.tablelines.proofs.Lines.{tables}
use Rattle.tablelines.proofs.table_line_by.Goals as goal

pub put_below-n-requires : goal.put_below-n-requires
put_below-n-requires c = search tables

pub returns : goal.returns
returns c = search tables
