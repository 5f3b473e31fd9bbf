-- `domainline::put_retained` meets its contract. Assumes nothing.
use Rattle.domainline.proofs.Written.{entry_is}
use Rattle.domainline.proofs.put_retained.Goals as goal

pub returns : goal.returns
returns c = search entry_is
