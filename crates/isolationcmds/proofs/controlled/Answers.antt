-- `isolationcmds::controlled` meets its contract. Assumes nothing.
use mathlib.Core.List.{◌++◌}
use Rattle.made.specs.Asked.{found_fits}
use Rattle.isolationcmds.specs.Stored.{controlled_made}
use Rattle.isolationcmds.proofs.controlled.Goals as goal

pub returns : goal.returns
returns c =
    controlled_made (c.args.mem.now.files.now ++ c.args.mem.now.area.now) c.args.command.now.rows.now c.args.command.now.n c.args.x c.option-signal.result c.option-sense.result c.option-signal.ensures c.option-sense.ensures c.given.result c.given-2.result c.given.ensures c.given-2.ensures

pub given-requires : goal.given-requires
given-requires c = found_fits _ _ _ _ _ c.option-signal.ensures c.requires

pub given-requires-2 : goal.given-requires-2
given-requires-2 c = found_fits _ _ _ _ _ c.option-sense.ensures c.requires
