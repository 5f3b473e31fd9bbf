-- `format::arg::fixed` meets its contract. Assumes nothing.
use Rattle.format.proofs.Arguments.{made}
use Rattle.format.proofs.arg.fixed.Goals as goal

pub returns : goal.returns
returns c = search made
