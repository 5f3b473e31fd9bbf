-- `isolationcmds::updated` meets its contract. Assumes nothing.
use mathlib.Core.List.{◌++◌}
use Rattle.made.specs.Asked.{found_fits}
use Rattle.isolationcmds.specs.Stored.{renewed_made}
use Rattle.isolationcmds.proofs.updated.Goals as goal

pub returns : goal.returns
returns c =
    renewed_made (c.args.mem.now.files.now ++ c.args.mem.now.area.now) c.args.command.now.rows.now c.args.command.now.n c.args.x c.args.scope c.args.elements c.option-applies.result c.option-clamp.result c.option-signal.result c.option-sense.result c.option-power.result c.option-ground_net.result c.option-applies.ensures c.option-clamp.ensures c.option-signal.ensures c.option-sense.ensures c.option-power.ensures c.option-ground_net.ensures c.given.result c.given-2.result c.given-3.result c.given-4.result c.given-5.result c.given-6.result c.given.ensures c.given-2.ensures c.given-3.ensures c.given-4.ensures c.given-5.ensures c.given-6.ensures

pub given-requires : goal.given-requires
given-requires c = found_fits _ _ _ _ _ c.option-applies.ensures c.requires

pub given-requires-2 : goal.given-requires-2
given-requires-2 c = found_fits _ _ _ _ _ c.option-clamp.ensures c.requires

pub given-requires-3 : goal.given-requires-3
given-requires-3 c = found_fits _ _ _ _ _ c.option-signal.ensures c.requires

pub given-requires-4 : goal.given-requires-4
given-requires-4 c = found_fits _ _ _ _ _ c.option-sense.ensures c.requires

pub given-requires-5 : goal.given-requires-5
given-requires-5 c = found_fits _ _ _ _ _ c.option-power.ensures c.requires

pub given-requires-6 : goal.given-requires-6
given-requires-6 c = found_fits _ _ _ _ _ c.option-ground_net.ensures c.requires
