-- `cover::cover_outputs` meets its contract. Assumes nothing.
use Rattle.cover.proofs.Ports.{outputs_placed, outputs_some, finds}
use Rattle.cover.proofs.cover_outputs.Goals as goal

pub returns : goal.returns
returns c = outputs_some _ _ _ _ _ _ _ c.requires.1 _ _ c.whole.ensures _ c.in-Some.ensures _ _ _ _ _ _ _ _ c.cover_ports.ensures

pub whole-requires : goal.whole-requires
whole-requires c = search finds

pub find_instance-requires : goal.find_instance-requires
find_instance-requires c = search finds

pub returns-in_default : goal.returns-in_default
returns-in_default c = search finds

pub cover_ports-requires : goal.cover_ports-requires
cover_ports-requires c = (c.requires.0, outputs_placed _ _ _ _ _ _ _ c.requires.1 _ _ c.whole.ensures _ c.in-Some.ensures)
