-- `statecmds::switch` meets its contract. Assumes nothing.
use mathlib.Core.List.{◌++◌}
use Rattle.made.specs.Asked.{read_fits, found_fits}
use Rattle.statecmds.specs.Switches.{switch_made}
use Rattle.statecmds.specs.Puts.{first_fits, ons_fits, offs_fits, first_mid, mid_end}
use Rattle.statecmds.proofs.switch.Goals as goal

pub returns : goal.returns
returns c =
    switch_made (c.args.mem.now.files.now ++ c.args.mem.now.area.now) c.args.command.now.rows.now c.args.command.now.n c.args.scope c.args.first c.args.mid c.args.end c.name-named.result c.option-domain.result c.option-input.result c.option-output.result c.option-controls.result c.name-named.ensures c.option-domain.ensures c.option-input.ensures c.option-output.ensures c.option-controls.ensures c.narrow.result c.or_empty.result c.or_empty-2.result c.or_empty-3.result c.as_maybe.result c.narrow.ensures c.as_maybe.ensures c.or_empty.ensures c.or_empty-2.ensures c.or_empty-3.ensures

pub narrow-requires : goal.narrow-requires
narrow-requires c = read_fits _ _ _ _ _ c.name-named.ensures c.requires.line

pub as_maybe-requires : goal.as_maybe-requires
as_maybe-requires c = found_fits _ _ _ _ _ c.option-domain.ensures c.requires.line

pub or_empty-requires : goal.or_empty-requires
or_empty-requires c = found_fits _ _ _ _ _ c.option-input.ensures c.requires.line

pub or_empty-requires-2 : goal.or_empty-requires-2
or_empty-requires-2 c = found_fits _ _ _ _ _ c.option-output.ensures c.requires.line

pub or_empty-requires-3 : goal.or_empty-requires-3
or_empty-requires-3 c = found_fits _ _ _ _ _ c.option-controls.ensures c.requires.line

pub overflow_cast-result : goal.overflow_cast-result
overflow_cast-result c = record { fits = first_fits _ _ _ _ _ c.requires }

pub overflow_cast-result-2 : goal.overflow_cast-result-2
overflow_cast-result-2 c = record { fits = ons_fits _ _ _ _ _ c.requires }

pub overflow_cast-result-3 : goal.overflow_cast-result-3
overflow_cast-result-3 c = record { fits = offs_fits _ _ _ _ _ c.requires }

pub overflow_sub-result : goal.overflow_sub-result
overflow_sub-result c = first_mid _ _ _ _ _ c.requires

pub overflow_sub-result-2 : goal.overflow_sub-result-2
overflow_sub-result-2 c = mid_end _ _ _ _ _ c.requires
