use Rattle.answers.proofs.Room.{fitting}
use Rattle.answers.proofs.fitted.Goals as goal

pub refused-requires : goal.refused-requires
refused-requires c = search fitting

pub returns-then-t-ne0 : goal.returns-then-t-ne0
returns-then-t-ne0 c = search fitting

pub fits-requires : goal.fits-requires
fits-requires c = search fitting

pub refused-requires-then-not-fits : goal.refused-requires-then-not-fits
refused-requires-then-not-fits c = search fitting

pub returns-then-not-fits : goal.returns-then-not-fits
returns-then-not-fits c = search fitting

pub returns : goal.returns
returns c = search fitting
