-- `substitution::piece::closing` meets its contract. Assumes nothing.
use Rattle.substitution.proofs.Pieces.{closings}
use Rattle.substitution.proofs.piece.closing.Goals as goal

pub mark-requires : goal.mark-requires
mark-requires c = search closings

pub returns-then-opened-eq1 : goal.returns-then-opened-eq1
returns-then-opened-eq1 c = search closings

pub returns : goal.returns
returns c = search closings
