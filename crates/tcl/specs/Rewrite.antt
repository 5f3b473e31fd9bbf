-- Bytes rewritten piece by piece. Assumes nothing.
use Rattle.std.specs.Prelude.{ℕ, zero, suc, [], ◌∷◌, ◌++◌}
use Rattle.text.specs.Ascii.{Bytes}

-- `more` says how many bytes the piece at the head of a text has besides its first, and `to` what is written for that piece.
-- The first `skip` bytes belong to a piece that is written already
unfoldable pub rewrite : (Bytes → ℕ) → (Bytes → Bytes) → ℕ → Bytes → Bytes
rewrite more to skip [] = []
rewrite more to zero (x ∷ xs) = to (x ∷ xs) ++ rewrite more to (more (x ∷ xs)) xs
rewrite more to (suc skip) (x ∷ xs) = rewrite more to skip xs
