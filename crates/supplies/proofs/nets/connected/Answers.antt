-- `supplies::nets::connected` meets its contract. Assumes nothing.
use Rattle.supplies.proofs.Rows.{row_whole, row_other, row_yes, row_no}
use Rattle.supplies.proofs.nets.connected.Goals as goal

pub returns-then-r-ne1 : goal.returns-then-r-ne1
returns-then-r-ne1 c = search row_other

pub is_entry-requires : goal.is_entry-requires
is_entry-requires c = search row_whole

pub returns-then-is_entry : goal.returns-then-is_entry
returns-then-is_entry c = search row_yes

pub returns : goal.returns
returns c = search row_no
