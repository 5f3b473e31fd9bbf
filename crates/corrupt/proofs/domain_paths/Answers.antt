-- `corrupt::domain_paths` meets its contract: the walk with the marks of the retained entries. Assumes nothing.
use Rattle.corrupt.proofs.Marking.{empties}
use Rattle.corrupt.proofs.domain_paths.Goals as goal

pub marked_paths-requires : goal.marked_paths-requires
marked_paths-requires c = search empties
