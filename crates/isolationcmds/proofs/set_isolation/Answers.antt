-- `isolationcmds::set_isolation` meets its contract. Assumes nothing.
use native.Mathlib.Omega.{arith}
use Rattle.made.specs.Asked.{read_fits, found_fits}
use Rattle.isolationcmds.specs.Deeds.{told_new, told_not, told_missing, told_update}
use Rattle.isolationcmds.proofs.set_isolation.Goals as goal

pub narrow-named-requires : goal.narrow-named-requires
narrow-named-requires c = read_fits _ _ _ _ _ c.name.ensures c.requires.0

pub returns-then-flag : goal.returns-then-flag
returns-then-flag c =
    told_not c.args.mem.now.files.now c.args.mem.now.area.now c.args.command.now.rows.now c.args.command.now.n c.args.b c.args.t c.name.result c.narrow-named.result c.name.ensures c.narrow-named.ensures c.flag.result c.flag.ensures c.if-flag.true

pub enter-requires : goal.enter-requires
enter-requires c = c.requires.0

pub returns-then-not-flag : goal.returns-then-not-flag
returns-then-not-flag c =
    told_new c.args.mem.now.files.now c.args.mem.now.area.now c.args.command.now.rows.now c.args.command.now.n c.args.b c.args.t c.flag.result c.flag-2.result c.enter.result c.flag.ensures c.if-flag.false c.flag-2.ensures c.if-not-flag.true c.enter.ensures

pub or_empty-domain-requires : goal.or_empty-domain-requires
or_empty-domain-requires c = found_fits _ _ _ _ _ c.option.ensures c.requires.0

pub find_strategy-i-requires : goal.find_strategy-i-requires
find_strategy-i-requires c = c.requires.1

pub enter-requires-then-t-i : goal.enter-requires-then-t-i
enter-requires-then-t-i c = c.requires.0

pub returns-then-t-i : goal.returns-then-t-i
returns-then-t-i c =
    told_missing c.args.mem.now.files.now c.args.mem.now.area.now c.args.command.now.rows.now c.args.command.now.n c.args.b c.args.t c.name.result c.narrow-named.result c.name.ensures c.narrow-named.ensures c.option.result c.or_empty-domain.result c.option.ensures c.or_empty-domain.ensures c.find_strategy-i.result c.find_strategy-i.ensures c.flag.result c.flag-2.result c.enter-then-t-i.result c.flag.ensures c.if-flag.false c.flag-2.ensures c.if-not-flag.false c.if-t-i.true c.enter-then-t-i.ensures

pub offset_bounds-t-i : goal.offset_bounds-t-i
offset_bounds-t-i c = record { fits = omega (arith, c.if-t-i.false, c.requires.1) }

pub bounds-t-i : goal.bounds-t-i
bounds-t-i c = omega (arith, c.if-t-i.false, c.requires.1)

pub update-x-requires : goal.update-x-requires
update-x-requires c = c.requires.0

pub returns : goal.returns
returns c =
    told_update c.args.mem.now.files.now c.args.mem.now.area.now c.args.command.now.rows.now c.args.command.now.n c.args.b c.args.t c.name.result c.narrow-named.result c.name.ensures c.narrow-named.ensures c.option.result c.or_empty-domain.result c.option.ensures c.or_empty-domain.ensures c.find_strategy-i.result c.find_strategy-i.ensures _ c.requires.1 c.if-t-i.false c.update-x.result c.flag.result c.flag-2.result c.flag.ensures c.if-flag.false c.flag-2.ensures c.if-not-flag.false c.update-x.ensures
