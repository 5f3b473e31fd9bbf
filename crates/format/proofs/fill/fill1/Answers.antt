-- `format::fill::fill1` meets its contract. Assumes nothing.
use Rattle.format.proofs.Letters.{fill_one}
use Rattle.format.proofs.fill.fill1.Goals as goal

pub returns : goal.returns
returns c = search fill_one
