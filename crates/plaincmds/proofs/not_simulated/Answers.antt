-- `plaincmds::not_simulated` meets its contract. Assumes nothing.
use Rattle.made.specs.First.{first_stored}
use Rattle.plaincmds.proofs.Deeds.{parsed_warned_does}
use Rattle.plaincmds.proofs.not_simulated.Goals as goal

pub narrow-requires : goal.narrow-requires
narrow-requires c = first_stored _ _ c.requires c.pair-w.ensures

pub returns : goal.returns
returns c = λ files area. parsed_warned_does files area _ _ c.pair-w.ensures _ c.narrow.ensures
