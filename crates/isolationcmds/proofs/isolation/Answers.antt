-- `isolationcmds::isolation` meets its contract. Assumes nothing.
use mathlib.Core.List.{◌++◌}
use Rattle.made.specs.Asked.{read_fits, found_fits}
use Rattle.isolationcmds.specs.Stored.{isolation_made}
use Rattle.isolationcmds.proofs.isolation.Goals as goal

pub returns : goal.returns
returns c =
    isolation_made (c.args.mem.now.files.now ++ c.args.mem.now.area.now) c.args.command.now.rows.now c.args.command.now.n c.args.scope c.name-named.result c.option-domain.result c.option-applies.result c.option-elements.result c.option-clamp.result c.option-signal.result c.option-sense.result c.option-power.result c.option-ground_net.result c.name-named.ensures c.option-domain.ensures c.option-applies.ensures c.option-elements.ensures c.option-clamp.ensures c.option-signal.ensures c.option-sense.ensures c.option-power.ensures c.option-ground_net.ensures c.narrow.result c.or_empty.result c.or_empty-2.result c.as_maybe.result c.as_maybe-2.result c.as_maybe-3.result c.as_maybe-4.result c.as_maybe-5.result c.as_maybe-6.result c.narrow.ensures c.or_empty.ensures c.as_maybe.ensures c.or_empty-2.ensures c.as_maybe-2.ensures c.as_maybe-3.ensures c.as_maybe-4.ensures c.as_maybe-5.ensures c.as_maybe-6.ensures

pub narrow-requires : goal.narrow-requires
narrow-requires c = read_fits _ _ _ _ _ c.name-named.ensures c.requires

pub or_empty-requires : goal.or_empty-requires
or_empty-requires c = found_fits _ _ _ _ _ c.option-domain.ensures c.requires

pub as_maybe-requires : goal.as_maybe-requires
as_maybe-requires c = found_fits _ _ _ _ _ c.option-applies.ensures c.requires

pub or_empty-requires-2 : goal.or_empty-requires-2
or_empty-requires-2 c = found_fits _ _ _ _ _ c.option-elements.ensures c.requires

pub as_maybe-requires-2 : goal.as_maybe-requires-2
as_maybe-requires-2 c = found_fits _ _ _ _ _ c.option-clamp.ensures c.requires

pub as_maybe-requires-3 : goal.as_maybe-requires-3
as_maybe-requires-3 c = found_fits _ _ _ _ _ c.option-signal.ensures c.requires

pub as_maybe-requires-4 : goal.as_maybe-requires-4
as_maybe-requires-4 c = found_fits _ _ _ _ _ c.option-sense.ensures c.requires

pub as_maybe-requires-5 : goal.as_maybe-requires-5
as_maybe-requires-5 c = found_fits _ _ _ _ _ c.option-power.ensures c.requires

pub as_maybe-requires-6 : goal.as_maybe-requires-6
as_maybe-requires-6 c = found_fits _ _ _ _ _ c.option-ground_net.ensures c.requires
