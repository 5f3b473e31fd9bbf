-- `plaincmds::set_design_top` meets its contract. Assumes nothing.
use Rattle.made.specs.Asked.{read_fits}
use Rattle.plaincmds.proofs.Deeds.{top_stays_does, top_inside_does, top_fine_does}
use Rattle.plaincmds.proofs.set_design_top.Goals as goal

pub returns-then-size-ne0 : goal.returns-then-size-ne0
returns-then-size-ne0 c = top_inside_does _ _ _ _ _ _ _ c.in-None.is c.from.ensures c.size.ensures c.if-size-ne0.true

pub narrow-requires : goal.narrow-requires
narrow-requires c = read_fits _ _ _ _ _ c.name-named.ensures c.requires

pub returns-in-Some : goal.returns-in-Some
returns-in-Some c = top_stays_does _ _ _ _ _ _ c.in-Some.is

pub returns-else-size-ne0 : goal.returns-else-size-ne0
returns-else-size-ne0 c = top_fine_does _ _ _ _ _ _ _ c.in-None.is c.from.ensures c.size.ensures _ _ c.if-size-ne0.false c.name-named.ensures c.narrow.ensures
