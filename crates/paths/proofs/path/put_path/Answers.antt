-- `paths::path::put_path` meets its contract. Assumes nothing.
use Rattle.paths.proofs.Pieces.{writes}
use Rattle.paths.proofs.path.put_path.Goals as goal

pub returns : goal.returns
returns c = search writes
