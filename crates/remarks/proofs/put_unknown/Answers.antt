-- `remarks::put_unknown` meets its contract. Assumes nothing.
use borrow.Author.Rules.{rules}
use Rattle.remarks.proofs.Texts.{unknown_written}
use Rattle.remarks.proofs.put_unknown.Goals as goal

pub returns : goal.returns
returns c = (search rules, unknown_written _ _ _ _ _ _ _ _ _ _ _ c.put.ensures.1 c.put_lowered.ensures.1 c.fill1.ensures.1 c.name.ensures)
