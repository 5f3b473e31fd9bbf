-- `isolation::turn` meets its contract. Assumes nothing.
use Rattle.isolation.proofs.One.{turn_own, turn_other}
use Rattle.isolation.proofs.turn.Goals as goal

pub returns-then-is_chosen : goal.returns-then-is_chosen
returns-then-is_chosen c =
    turn_own _ _ _ _ c.requires.1.1 _ c.from.ensures _ c.has_entries-has.ensures _ _ c.is_chosen.ensures _ _ _ _ _ _ _ _ _ _ _ _ c.if-is_chosen.true c.strategy.ensures

pub returns : goal.returns
returns c =
    turn_other _ _ _ _ c.requires.1.1 _ c.from.ensures _ c.has_entries-has.ensures _ _ c.is_chosen.ensures _ _ _ _ _ _ _ _ _ c.if-is_chosen.false c.requires.0
