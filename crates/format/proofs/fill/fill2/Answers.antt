-- `format::fill::fill2` meets its contract. Assumes nothing.
use Rattle.format.proofs.Letters.{fill_two}
use Rattle.format.proofs.fill.fill2.Goals as goal

pub returns : goal.returns
returns c = search fill_two
