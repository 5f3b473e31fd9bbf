-- `refs::has_name` meets its contract. Assumes nothing.
use Rattle.refs.proofs.Written.{theres}
use Rattle.refs.proofs.has_name.Goals as goal

pub returns : goal.returns
returns c = search theres
