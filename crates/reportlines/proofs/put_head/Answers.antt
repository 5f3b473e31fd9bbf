-- `reportlines::put_head` meets its contract. Assumes nothing.
use Rattle.reportlines.proofs.Head.{head_is}
use Rattle.reportlines.proofs.put_head.Goals as goal

pub returns : goal.returns
returns c = search head_is
