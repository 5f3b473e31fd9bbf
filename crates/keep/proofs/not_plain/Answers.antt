-- `keep::not_plain` meets its contract. Assumes nothing.
use borrow.Author.Rules.{rules}
use Rattle.keep.proofs.Aims.{plain_warned}
use Rattle.keep.proofs.not_plain.Goals as goal

pub returns : goal.returns
returns c = plain_warned c.args.warn c.args.c c.args.out.now _ _ _ _ _ _ _ _ _ _ _ _ _ c.fill2.ensures.1 c.over-text.ensures.from (search rules) c.name.ensures c.wrapped.ensures c.warned-2.ensures (search rules)
