-- `refs::end_apart` meets its contract. Assumes nothing.
use Rattle.refs.proofs.Heads.{aparts}
use Rattle.refs.proofs.end_apart.Goals as goal

pub returns : goal.returns
returns c = search aparts
