-- `substitution::piece::reference` meets its contract. Assumes nothing.
use Rattle.substitution.proofs.Pieces.{reference_is}
use Rattle.substitution.proofs.piece.reference.Goals as goal

pub returns : goal.returns
returns c = search reference_is
