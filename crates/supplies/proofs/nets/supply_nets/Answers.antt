-- `supplies::nets::supply_nets` meets its contract. Assumes nothing.
use Rattle.supplies.proofs.Tables.{orders_nets, orders_ports, orders_switches, orders_all}
use Rattle.supplies.proofs.nets.supply_nets.Goals as goal

pub created-a-requires : goal.created-a-requires
created-a-requires c = search orders_nets

pub of_ports-b-requires : goal.of_ports-b-requires
of_ports-b-requires c = search orders_ports

pub of_switches-requires : goal.of_switches-requires
of_switches-requires c = orders_switches _ _ _ _ _ c.requires.0 c.requires.1 _ _ c.created-a.ensures _ _ c.of_ports-b.ensures

pub returns : goal.returns
returns c = orders_all _ _ _ _ _ c.requires.0 c.requires.1 _ _ c.created-a.ensures _ _ c.of_ports-b.ensures _ _ c.of_switches.ensures
