-- `plaincmds::set_retention` meets its contract. Assumes nothing.
use Rattle.plaincmds.proofs.Deeds.{retention_full_does, retention_fine_does}
use Rattle.plaincmds.proofs.set_retention.Goals as goal

pub returns-then-b-ge32 : goal.returns-then-b-ge32
returns-then-b-ge32 c = retention_full_does _ _ _ _ _ c.if-b-ge32.true

pub returns : goal.returns
returns c = retention_fine_does _ _ _ _ _ _ c.if-b-ge32.false c.retention-x.ensures
