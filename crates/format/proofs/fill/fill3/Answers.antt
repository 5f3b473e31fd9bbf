-- `format::fill::fill3` meets its contract. Assumes nothing.
use Rattle.format.proofs.Letters.{fill_three}
use Rattle.format.proofs.fill.fill3.Goals as goal

pub returns : goal.returns
returns c = search fill_three
