use Rattle.ports.proofs.Firsts.{off_turns}
use Rattle.ports.proofs.Turns.{body_turns}
use Rattle.ports.proofs.body.next_of.Goals as goal

pub loop-e-init : goal.loop-e-init
loop-e-init c = search (body_turns, off_turns)

pub loop-e-preserved-then-is_off : goal.loop-e-preserved-then-is_off
loop-e-preserved-then-is_off c = search (body_turns, off_turns)
