use Rattle.listing.proofs.Adds.{lefts}
use Rattle.listing.proofs.listed.Goals as goal

pub loop-k-preserved : goal.loop-k-preserved
loop-k-preserved c = search lefts
