use Rattle.ports.proofs.Turns.{header_turns}
use Rattle.ports.proofs.header.next_output.Goals as goal

pub loop-port-init : goal.loop-port-init
loop-port-init c = search header_turns
