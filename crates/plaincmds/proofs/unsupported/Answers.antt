-- `plaincmds::unsupported` meets its contract. Assumes nothing.
use Rattle.made.specs.First.{first_stored}
use Rattle.plaincmds.proofs.Deeds.{query_passes_does, unknown_warned_does}
use Rattle.plaincmds.proofs.unsupported.Goals as goal

pub returns-then-is_query : goal.returns-then-is_query
returns-then-is_query c = query_passes_does _ _ _ _ c.pair-w.ensures _ c.is_query.ensures c.if-is_query.true

pub narrow-requires : goal.narrow-requires
narrow-requires c = first_stored _ _ c.requires c.pair-w.ensures

pub returns : goal.returns
returns c = unknown_warned_does _ _ _ _ c.pair-w.ensures _ _ c.is_query.ensures c.if-is_query.false c.narrow.ensures
