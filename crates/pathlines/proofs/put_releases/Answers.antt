-- `pathlines::put_releases` meets its contract. Assumes nothing.
use Rattle.pathlines.proofs.Writes.{releases_are}
use Rattle.pathlines.proofs.put_releases.Goals as goal

pub returns : goal.returns
returns c = search releases_are
