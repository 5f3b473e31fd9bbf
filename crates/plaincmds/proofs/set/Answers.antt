-- `plaincmds::set` meets its contract. Assumes nothing.
use Rattle.made.specs.Asked.{read_fits}
use Rattle.plaincmds.specs.Sets.{set_stored}
use Rattle.plaincmds.proofs.Deeds.{set_nothing_does, set_full_does, set_fine_does}
use Rattle.plaincmds.proofs.set.Goals as goal

pub returns-then-b-ge-MOST_VARIABLES : goal.returns-then-b-ge-MOST_VARIABLES
returns-then-b-ge-MOST_VARIABLES c = set_full_does _ _ _ _ _ _ _ c.positional.ensures c.in-Some.is c.if-b-ge-MOST_VARIABLES.true

pub narrow-requires : goal.narrow-requires
narrow-requires c = read_fits _ _ _ _ _ c.name-named.ensures c.requires

pub narrow-requires-in-Some : goal.narrow-requires-in-Some
narrow-requires-in-Some c = set_stored _ _ _ _ _ _ c.requires c.positional.ensures c.in-Some.is

pub returns-in-None : goal.returns-in-None
returns-in-None c = set_nothing_does _ _ _ _ _ _ c.positional.ensures c.in-None.is

pub returns-else-b-ge-MOST_VARIABLES : goal.returns-else-b-ge-MOST_VARIABLES
returns-else-b-ge-MOST_VARIABLES c = set_fine_does _ _ _ _ _ _ _ c.positional.ensures c.in-Some.is _ _ _ c.if-b-ge-MOST_VARIABLES.false c.name-named.ensures c.narrow.ensures c.narrow-in-Some.ensures
