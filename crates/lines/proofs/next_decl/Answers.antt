use Rattle.lines.proofs.Turns.{turn_passed, decl_good, decl_skip, decl_turns}
use Rattle.lines.proofs.next_decl.Goals as goal

pub loop-e-init : goal.loop-e-init
loop-e-init c = search decl_turns

pub returns-in-Some-decl_here : goal.returns-in-Some-decl_here
returns-in-Some-decl_here c = decl_good _ _ _ _ _ c.loop-e.invariant.1 c.in-Some.ensures _ c.part-line.ensures _ c.in-Some-decl_here.ensures c.loop-e.invariant.0 _ c.rest-v.ensures _ c.span_in.ensures

pub loop-e-preserved : goal.loop-e-preserved
loop-e-preserved c = (turn_passed _ _ _ _ c.in-Some.ensures _ c.loop-e.invariant.0, decl_skip _ _ _ _ _ c.loop-e.invariant.1 c.in-Some.ensures _ c.part-line.ensures c.in_default-decl_here.ensures)
