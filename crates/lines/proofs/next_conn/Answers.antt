use Rattle.std.proofs.Common.{rules}
use Rattle.lines.proofs.Turns.{turn_passed, conn_good, conn_skip, conn_turns}
use Rattle.lines.proofs.next_conn.Goals as goal

pub loop-e-init : goal.loop-e-init
loop-e-init c = search conn_turns

pub returns-in-Some-conn_here : goal.returns-in-Some-conn_here
returns-in-Some-conn_here c = conn_good _ _ _ _ _ c.loop-e.invariant.1 c.in-Some.ensures _ c.part-line.ensures _ c.is_inst.ensures (search rules) c.loop-e.invariant.0 _ c.rest.ensures _ c.in-Some-conn_here.ensures _ c.conn_at.ensures

pub loop-e-preserved : goal.loop-e-preserved
loop-e-preserved c = (turn_passed _ _ _ _ c.in-Some.ensures _ c.loop-e.invariant.0, conn_skip _ _ _ _ _ c.loop-e.invariant.1 c.in-Some.ensures _ c.part-line.ensures _ c.is_inst.ensures (search rules) c.in_default-conn_here.ensures)
