-- `isolationcmds::set_isolation_control` meets its contract. Assumes nothing.
use native.Mathlib.Omega.{arith}
use Rattle.made.specs.Asked.{read_fits, found_fits}
use Rattle.isolationcmds.specs.Deeds.{told_unknown, told_control}
use Rattle.isolationcmds.proofs.set_isolation_control.Goals as goal

pub narrow-named-requires : goal.narrow-named-requires
narrow-named-requires c = read_fits _ _ _ _ _ c.name.ensures c.requires.0

pub or_empty-domain-requires : goal.or_empty-domain-requires
or_empty-domain-requires c = found_fits _ _ _ _ _ c.option.ensures c.requires.0

pub find_strategy-i-requires : goal.find_strategy-i-requires
find_strategy-i-requires c = c.requires.1

pub returns-then-t-i : goal.returns-then-t-i
returns-then-t-i c =
    told_unknown c.args.mem.now.files.now c.args.mem.now.area.now c.args.command.now.rows.now c.args.command.now.n c.args.b c.args.t c.name.result c.narrow-named.result c.name.ensures c.narrow-named.ensures c.option.result c.or_empty-domain.result c.option.ensures c.or_empty-domain.ensures c.find_strategy-i.result c.find_strategy-i.ensures c.if-t-i.true

pub offset_bounds-t-i : goal.offset_bounds-t-i
offset_bounds-t-i c = record { fits = omega (arith, c.if-t-i.false, c.requires.1) }

pub bounds-t-i : goal.bounds-t-i
bounds-t-i c = omega (arith, c.if-t-i.false, c.requires.1)

pub controlled-x-requires : goal.controlled-x-requires
controlled-x-requires c = c.requires.0

pub returns : goal.returns
returns c =
    told_control c.args.mem.now.files.now c.args.mem.now.area.now c.args.command.now.rows.now c.args.command.now.n c.args.b c.args.t c.name.result c.narrow-named.result c.name.ensures c.narrow-named.ensures c.option.result c.or_empty-domain.result c.option.ensures c.or_empty-domain.ensures c.find_strategy-i.result c.find_strategy-i.ensures _ c.requires.1 c.if-t-i.false c.controlled-x.result c.controlled-x.ensures
