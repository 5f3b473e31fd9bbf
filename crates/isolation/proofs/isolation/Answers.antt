-- `isolation::isolation` meets its contract. Assumes nothing.
use Rattle.isolation.proofs.Rounds.{without_strategies, start_ready, first_over, both_rounds}
use Rattle.isolation.proofs.isolation.Goals as goal

pub returns-then-t-eq0 : goal.returns-then-t-eq0
returns-then-t-eq0 c = without_strategies _ _ _ _ _ c.if-t-eq0.true _ _ _ _ _ c.requires.1

pub returns-then-a : goal.returns-then-a
returns-then-a c = first_over _ _ _ _ _ _ c.requires.1 _ _ _ _ _ _ _ c.round-a.ensures c.if-a.true

pub returns : goal.returns
returns c =
    both_rounds _ _ _ _ _ _ c.requires.1 _ _ _ _ _ _ _ c.round-a.ensures c.if-a.false _ _ _ c.round.ensures

pub round-a-requires : goal.round-a-requires
round-a-requires c = (start_ready _ _ c.requires.1, c.requires.0)

pub round-requires : goal.round-requires
round-requires c = (c.round-a.ensures.ready c.if-a.false, c.requires.0)
