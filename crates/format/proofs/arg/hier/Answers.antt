-- `format::arg::hier` meets its contract. Assumes nothing.
use Rattle.format.proofs.Arguments.{made}
use Rattle.format.proofs.arg.hier.Goals as goal

pub returns : goal.returns
returns c = search made
