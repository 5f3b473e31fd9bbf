use mathlib.Core.Path.{refl}
use borrow.Author.Rules.{rules}
use Rattle.tablelines.proofs.Lines.{lines_start, indices, lines_table, lines_next, lines_done}
use Rattle.tablelines.proofs.table_lines.Goals as goal

pub loop-i-init : goal.loop-i-init
loop-i-init c = (refl, search lines_start)

pub bounds-t-i : goal.bounds-t-i
bounds-t-i c = search indices

pub table_line-requires : goal.table_line-requires
table_line-requires c = search lines_table

pub loop-i-preserved : goal.loop-i-preserved
loop-i-preserved c = (search rules, search lines_next)

pub returns : goal.returns
returns c = search lines_done
