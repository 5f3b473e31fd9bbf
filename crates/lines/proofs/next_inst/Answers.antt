use Rattle.lines.proofs.Turns.{turn_passed, inst_good, inst_skip, inst_turns}
use Rattle.lines.proofs.next_inst.Goals as goal

pub loop-e-init : goal.loop-e-init
loop-e-init c = search inst_turns

pub returns-in-Some-inst_here : goal.returns-in-Some-inst_here
returns-in-Some-inst_here c = inst_good _ _ _ _ _ c.loop-e.invariant.1 c.in-Some.ensures _ c.part-line.ensures _ c.in-Some-inst_here.ensures c.loop-e.invariant.0 _ c.rest-v.ensures _ c.span_in.ensures _ c.span_in-in-Some-inst_here.ensures

pub loop-e-preserved : goal.loop-e-preserved
loop-e-preserved c = (turn_passed _ _ _ _ c.in-Some.ensures _ c.loop-e.invariant.0, inst_skip _ _ _ _ _ c.loop-e.invariant.1 c.in-Some.ensures _ c.part-line.ensures c.in_default-inst_here.ensures)
