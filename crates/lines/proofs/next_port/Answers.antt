use Rattle.lines.proofs.Turns.{turn_passed, port_good, port_skip, port_turns}
use Rattle.lines.proofs.next_port.Goals as goal

pub loop-e-init : goal.loop-e-init
loop-e-init c = search port_turns

pub returns-in-Some-port_here : goal.returns-in-Some-port_here
returns-in-Some-port_here c = port_good _ _ _ _ _ c.loop-e.invariant.1 c.in-Some.ensures _ c.part-line.ensures _ c.in-Some-port_here.ensures c.loop-e.invariant.0 _ c.rest-v.ensures _ c.span_in.ensures

pub loop-e-preserved : goal.loop-e-preserved
loop-e-preserved c = (turn_passed _ _ _ _ c.in-Some.ensures _ c.loop-e.invariant.0, port_skip _ _ _ _ _ c.loop-e.invariant.1 c.in-Some.ensures _ c.part-line.ensures c.in_default-port_here.ensures)
