-- `generate::tail::listed` meets its contract. Assumes nothing.

use Rattle.tablelines.specs.Seen.{orders_tables}
use Rattle.generate.proofs.tail.listed.Goals as goal

pub table_lines-requires : goal.table_lines-requires
table_lines-requires c = orders_tables c.args.mem.now.files.now c.args.mem.now.area.now c.args.nums.now c.args.s c.requires

pub returns : goal.returns
returns c = record { same_room = cc; lines = rw (← c.shifter_lines.ensures.1) c.table_lines.ensures.1 }
