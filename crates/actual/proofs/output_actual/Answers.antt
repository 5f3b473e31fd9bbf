use Rattle.actual.proofs.Turns.{decided_on}
use Rattle.actual.proofs.output_actual.Goals as goal

pub loop-conn-preserved : goal.loop-conn-preserved
loop-conn-preserved c =
    decided_on _ _ _ _ _ _ _ _ _ _ c.loop-conn.invariant _ c.in-Some.ensures _ c.next_port-q.ensures c.in_default-said_of.ensures _ c.star_at-star.ensures _ c.conn_next-at.ensures _ c.port_next-p.ensures
