-- `supplies::nets::add_switch` meets its contract. Assumes nothing.
use Rattle.supplies.proofs.Tables.{input_supply, output_supply, both_added}
use Rattle.supplies.proofs.nets.add_switch.Goals as goal

pub add_supply-a-requires : goal.add_supply-a-requires
add_supply-a-requires c = search input_supply

pub add_supply-requires : goal.add_supply-requires
add_supply-requires c = search output_supply

pub returns : goal.returns
returns c = search both_added
