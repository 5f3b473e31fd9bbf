-- `refs::of_job` meets its contract. Assumes nothing.
use Rattle.refs.proofs.Firsts.{made}
use Rattle.refs.proofs.of_job.Goals as goal

pub returns : goal.returns
returns c = search made
