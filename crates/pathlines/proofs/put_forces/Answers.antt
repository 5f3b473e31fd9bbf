-- `pathlines::put_forces` meets its contract. Assumes nothing.
use Rattle.pathlines.proofs.Writes.{forces_are}
use Rattle.pathlines.proofs.put_forces.Goals as goal

pub returns : goal.returns
returns c = search forces_are
