-- `remarks::line` meets its contract. Assumes nothing.
use borrow.Author.Rules.{rules}
use Rattle.out.specs.Emit.{over_written}
use Rattle.remarks.proofs.Texts.{line_put}
use Rattle.remarks.proofs.line.Goals as goal

pub returns : goal.returns
returns c = line_put c.args.warn _ c.args.c c.args.out.now _ _ (over_written _ _ _ _ _ _ _ c.put_line.ensures.1 c.over-text.ensures.from (search rules)) (search rules)
