-- `remarks::not_outputs` meets its contract. Assumes nothing.
use borrow.Author.Rules.{rules}
use Rattle.out.specs.Emit.{over_written}
use Rattle.remarks.proofs.Texts.{outputs_warned}
use Rattle.remarks.proofs.not_outputs.Goals as goal

pub returns : goal.returns
returns c = outputs_warned c.args.warn c.args.c c.args.out.now _ _ _ _ _ _ c.name.ensures _ _ _ c.warned-2.ensures (search rules) _ _ c.name-2.ensures (over_written _ _ _ _ _ _ _ c.fill2.ensures.1 c.over-text.ensures.from (search rules))
