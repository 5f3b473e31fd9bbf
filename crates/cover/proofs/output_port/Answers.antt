-- `cover::output_port` meets its contract. Assumes nothing.
use Rattle.cover.proofs.Ports.{made}
use Rattle.cover.proofs.output_port.Goals as goal

pub returns : goal.returns
returns c = search made
