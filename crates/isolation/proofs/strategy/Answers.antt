-- `isolation::strategy` meets its contract. Assumes nothing.
use borrow.Author.Rules.{rules}
use Rattle.isolation.proofs.One.{signal_none, clamp_none, clamp_some}
use Rattle.isolation.proofs.strategy.Goals as goal

pub returns-in_default : goal.returns-in_default
returns-in_default c =
    signal_none _ _ _ _ _ _ _ _ _ c.args.x _ _ _ _ c.stored-name.ensures (search rules) c.requires.0 c.no_signal.ensures

pub returns-then-is_none : goal.returns-then-is_none
returns-then-is_none c =
    clamp_none _ _ _ _ _ _ _ _ _ c.args.x _ _ _ _ _ c.stored-wire.ensures (search rules) _ c.clamp.ensures _ c.stored-name.ensures _ c.is_none.ensures c.if-is_none.true _ c.given-value.ensures c.requires.0 c.clamp_unknown.ensures

pub returns : goal.returns
returns c =
    clamp_some _ _ _ _ _ _ _ _ _ c.args.x _ _ _ _ _ c.stored-wire.ensures (search rules) _ c.clamp.ensures _ _ c.is_none.ensures c.if-is_none.false c.with_clamp.ensures
