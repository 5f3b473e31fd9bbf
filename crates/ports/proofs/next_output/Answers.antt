use Rattle.ports.proofs.Turns.{output_steps}
use Rattle.ports.proofs.next_output.Goals as goal

pub body_output-requires : goal.body_output-requires
body_output-requires c = search output_steps
