use Rattle.listing.proofs.Adds.{adds}
use Rattle.listing.proofs.add.Goals as goal

pub flagged-requires : goal.flagged-requires
flagged-requires c = search adds

pub returns-then-flagged : goal.returns-then-flagged
returns-then-flagged c = search adds

pub add_new-requires : goal.add_new-requires
add_new-requires c = search adds
