-- `cover::cover_port` meets its contract. Assumes nothing.
use Rattle.cover.proofs.Ports.{slash_ready, slash_answer, slashes}
use Rattle.cover.proofs.cover_port.Goals as goal

pub insts_end-end-requires : goal.insts_end-end-requires
insts_end-end-requires c = search (slashes, c.requires, c.front-inst.ensures, c.in-Some.ensures)

pub output_actual-net-requires : goal.output_actual-net-requires
output_actual-net-requires c = search (slashes, c.requires, c.front-inst.ensures, c.in-Some.ensures)

pub slash_port-x-requires : goal.slash_port-x-requires
slash_port-x-requires c = search (slashes, c.requires)

pub aim-requires : goal.aim-requires
aim-requires c = (c.requires.0, slash_ready _ _ _ _ _ _ _ c.requires.1.0 _ _ _ c.requires.1.1 _ c.front-inst.ensures _ c.in-Some.ensures _ c.slash_port-x.ensures)

pub returns : goal.returns
returns c = slash_answer _ _ _ _ _ _ _ c.requires.1.0 _ _ _ c.requires.1.1 _ c.front-inst.ensures _ c.in-Some.ensures _ c.slash_port-x.ensures _ c.insts_end-end.ensures _ c.whole-own.ensures c.output_actual-net.result c.output_actual-net.ensures _ _ _ _ _ _ _ _ c.aim.ensures

pub overflow_sub-upto : goal.overflow_sub-upto
overflow_sub-upto c = search slashes

pub front-inst-requires : goal.front-inst-requires
front-inst-requires c = search slashes

pub find_instance-requires : goal.find_instance-requires
find_instance-requires c = search slashes

pub returns-in_default : goal.returns-in_default
returns-in_default c = search slashes

pub whole-own-requires : goal.whole-own-requires
whole-own-requires c = search slashes
