-- `checks::add` meets its contract. Assumes nothing.
use Rattle.checks.proofs.Inserts.{adds}
use Rattle.checks.proofs.add.Goals as goal

pub returns : goal.returns
returns c = search adds

pub insert-requires : goal.insert-requires
insert-requires c = search adds
