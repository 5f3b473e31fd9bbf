-- `generate::tail::warnings` meets its contract. Assumes nothing.
use Rattle.generate.proofs.Tails.{remarked}
use Rattle.generate.proofs.tail.warnings.Goals as goal

pub returns-then-remarks-eq0 : goal.returns-then-remarks-eq0
returns-then-remarks-eq0 c = search remarked

pub returns : goal.returns
returns c = search remarked
