-- `refs::whole` meets its contract. Assumes nothing.
use Rattle.refs.proofs.Firsts.{made}
use Rattle.refs.proofs.whole.Goals as goal

pub returns : goal.returns
returns c = search made
