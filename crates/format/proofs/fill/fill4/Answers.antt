-- `format::fill::fill4` meets its contract. Assumes nothing.
use Rattle.format.proofs.Letters.{fill_four}
use Rattle.format.proofs.fill.fill4.Goals as goal

pub returns : goal.returns
returns c = search fill_four
