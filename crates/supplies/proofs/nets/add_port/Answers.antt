-- `supplies::nets::add_port` meets its contract. Assumes nothing.
use Rattle.supplies.proofs.Tables.{port_rowed, port_adds, port_added}
use Rattle.supplies.proofs.nets.add_port.Goals as goal

pub net_of-x-requires : goal.net_of-x-requires
net_of-x-requires c = search port_rowed

pub add-requires : goal.add-requires
add-requires c = search port_adds

pub returns : goal.returns
returns c = search port_added
