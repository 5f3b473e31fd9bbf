-- `job::eight_low` meets its contract. Assumes nothing.
use Rattle.job.proofs.Lows.{low_eight}
use Rattle.job.proofs.eight_low.Goals as goal

pub returns : goal.returns
returns c = search low_eight
