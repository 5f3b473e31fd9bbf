-- `substitution::piece::next_piece` meets its contract. Assumes nothing.
use Rattle.substitution.proofs.Pieces.{pieces}
use Rattle.substitution.proofs.piece.next_piece.Goals as goal

pub dropped-e-requires : goal.dropped-e-requires
dropped-e-requires c = search pieces

pub overflow_add-k : goal.overflow_add-k
overflow_add-k c = search pieces

pub overflow_add-a : goal.overflow_add-a
overflow_add-a c = search pieces

pub overflow_add-a-2 : goal.overflow_add-a-2
overflow_add-a-2 c = search pieces

pub bounds-body-k : goal.bounds-body-k
bounds-body-k c = search pieces

pub reference-requires : goal.reference-requires
reference-requires c = search pieces

pub returns-then-body-k-eq36 : goal.returns-then-body-k-eq36
returns-then-body-k-eq36 c = search pieces

pub returns : goal.returns
returns c = search pieces
