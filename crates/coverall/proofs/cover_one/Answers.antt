-- `coverall::cover_one` meets its contract. Assumes nothing.
use Rattle.coverall.proofs.Turns.{ones}
use Rattle.coverall.proofs.cover_one.Goals as goal

pub returns-then-outputs : goal.returns-then-outputs
returns-then-outputs c = search ones

pub returns : goal.returns
returns c = search ones
