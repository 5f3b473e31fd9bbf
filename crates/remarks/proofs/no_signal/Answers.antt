-- `remarks::no_signal` meets its contract. Assumes nothing.
use borrow.Author.Rules.{rules}
use Rattle.out.specs.Emit.{over_written}
use Rattle.remarks.proofs.Texts.{signal_warned}
use Rattle.remarks.proofs.no_signal.Goals as goal

pub returns : goal.returns
returns c = signal_warned c.args.warn c.args.c c.args.out.now _ _ _ _ _ _ c.name.ensures _ _ _ c.warned-2.ensures (search rules) (over_written _ _ _ _ _ _ _ c.fill1.ensures.1 c.over-text.ensures.from (search rules))
