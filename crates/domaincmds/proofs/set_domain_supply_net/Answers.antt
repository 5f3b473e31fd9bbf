-- `domaincmds::set_domain_supply_net` meets its contract. Assumes nothing.
use native.Mathlib.Omega.{arith}
use Rattle.made.specs.Asked.{read_fits, found_fits}
use Rattle.domaincmds.proofs.Deeds.{supply_warned_does, supply_fine_does}
use Rattle.domaincmds.proofs.set_domain_supply_net.Goals as goal

pub narrow-named-requires : goal.narrow-named-requires
narrow-named-requires c = read_fits _ _ _ _ _ c.name.ensures c.requires.0

pub first_named-i-requires : goal.first_named-i-requires
first_named-i-requires c = (omega arith, c.requires.1)

pub returns-then-t-i : goal.returns-then-t-i
returns-then-t-i c = supply_warned_does _ _ _ _ _ _ _ _ c.name.ensures c.narrow-named.ensures _ c.first_named-i.ensures c.if-t-i.true

pub maybe_below-p-requires : goal.maybe_below-p-requires
maybe_below-p-requires c = found_fits _ _ _ _ _ c.option-power.ensures c.requires.0

pub maybe_below-g-requires : goal.maybe_below-g-requires
maybe_below-g-requires c = found_fits _ _ _ _ _ c.option-ground_net.ensures c.requires.0

pub offset_bounds-t-i : goal.offset_bounds-t-i
offset_bounds-t-i c = record { fits = omega (arith, c.if-t-i.false, c.requires.1) }

pub bounds-t-i : goal.bounds-t-i
bounds-t-i c = omega (arith, c.if-t-i.false, c.requires.1)

pub returns : goal.returns
returns c = supply_fine_does _ _ _ _ _ _ _ _ c.name.ensures c.narrow-named.ensures _ c.first_named-i.ensures _ c.if-t-i.false c.requires.1 _ _ c.option-power.ensures c.option-ground_net.ensures _ _ _ c.maybe_below-p.ensures c.maybe_below-g.ensures c.supplied.ensures
