-- `refs::front` meets its contract. Assumes nothing.
use Rattle.refs.proofs.Firsts.{made}
use Rattle.refs.proofs.front.Goals as goal

pub returns : goal.returns
returns c = search made
