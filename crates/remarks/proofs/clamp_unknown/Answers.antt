-- `remarks::clamp_unknown` meets its contract. Assumes nothing.
use borrow.Author.Rules.{rules}
use Rattle.out.specs.Emit.{over_written}
use Rattle.remarks.proofs.Texts.{clamp_warned}
use Rattle.remarks.proofs.clamp_unknown.Goals as goal

pub returns : goal.returns
returns c = clamp_warned c.args.warn c.args.c c.args.out.now _ _ _ _ (over_written _ _ _ _ _ _ _ c.put_unknown.ensures.1 c.over-text.ensures.from (search rules)) c.warned-2.ensures (search rules)
