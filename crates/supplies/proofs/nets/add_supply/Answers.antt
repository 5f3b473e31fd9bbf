-- `supplies::nets::add_supply` meets its contract. Assumes nothing.
use Rattle.supplies.proofs.Tables.{supply_whole, supply_adds, supply_added}
use Rattle.supplies.proofs.nets.add_supply.Goals as goal

pub nth_below-x-requires : goal.nth_below-x-requires
nth_below-x-requires c = search supply_whole

pub add_named-requires : goal.add_named-requires
add_named-requires c = search supply_adds

pub returns : goal.returns
returns c = search supply_added
