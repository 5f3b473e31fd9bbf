-- A limit on reading that is passed, as a value, and what a `?` hands on then. Assumes nothing.
use Rattle.std.specs.Prelude.{◌≡◌, Result, Err}
use Rattle.std.specs.Result.{IsErr, IsErrAnd}
use Rattle.std.proofs.lemmas.Result.{err_from_is_err_and}
use Rattle.substitution.specs.declared.put.Full.{Full}

abbrev pub full : Full
full = record {}

-- the exit of a `?`: there is one error only
pub passed_on : {T : Type 0} → (Q : Full → Type 0) → (r : Result T Full) → IsErr r × IsErrAnd r Q → r ≡ Err full
passed_on Q r g = (err_from_is_err_and {Q = Q} r g.1).1
