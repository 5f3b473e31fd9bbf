-- `cover::slash_port` meets its contract. Assumes nothing.
use Rattle.cover.proofs.Ports.{made}
use Rattle.cover.proofs.slash_port.Goals as goal

pub returns : goal.returns
returns c = search made
