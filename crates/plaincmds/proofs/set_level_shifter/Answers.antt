-- `plaincmds::set_level_shifter` meets its contract. Assumes nothing.
use Rattle.plaincmds.proofs.Deeds.{shifter_full_does, shifter_fine_does}
use Rattle.plaincmds.proofs.set_level_shifter.Goals as goal

pub returns-then-b-ge32 : goal.returns-then-b-ge32
returns-then-b-ge32 c = shifter_full_does _ _ _ _ _ c.if-b-ge32.true

pub returns : goal.returns
returns c = shifter_fine_does _ _ _ _ _ _ c.if-b-ge32.false c.shifter-x.ensures
