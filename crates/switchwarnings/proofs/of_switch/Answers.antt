-- `switchwarnings::of_switch` meets its contract. Assumes nothing.
use Rattle.switches.specs.Asked.{names_rooms, names_controlled, switch_names}
use Rattle.switchwarnings.proofs.States.{switch_told}
use Rattle.switchwarnings.proofs.of_switch.Goals as goal

pub entries-n-requires : goal.entries-n-requires
entries-n-requires c = search (names_rooms, switch_names)

pub ons_warnings-requires : goal.ons_warnings-requires
ons_warnings-requires c = (c.requires.0, (search (names_controlled, switch_names), c.requires.1))

pub returns : goal.returns
returns c = search (switch_told, names_controlled, switch_names)
