-- `remarks::put_line` meets its contract. Assumes nothing.
use borrow.Author.Rules.{rules}
use Rattle.remarks.proofs.Texts.{line_written}
use Rattle.remarks.proofs.put_line.Goals as goal

pub returns : goal.returns
returns c = (search rules, line_written _ _ _ _ c.args.x _ _ _ _ _ _ _ _ _ _ c.fill.ensures.1 c.name.ensures c.stored-n.ensures c.name-2.ensures c.stored-d.ensures c.or_literal-clamp.ensures c.name-3.ensures c.or_literal-sense.ensures)
