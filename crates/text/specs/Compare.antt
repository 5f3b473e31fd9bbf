-- Byte strings compared: the same, one begins with another, one comes before another.
-- Assumes nothing.
use Rattle.std.specs.Prelude.{Bool, true, false, cond, ◌&&◌, [], ◌∷◌, length, take, eqb, ltb}
use Rattle.text.specs.Ascii.{Bytes}

-- the same bytes
unfoldable pub same : Bytes → Bytes → Bool
same [] [] = true
same [] (y ∷ ys) = false
same (x ∷ xs) [] = false
same (x ∷ xs) (y ∷ ys) = eqb x y && same xs ys

-- s begins with p
abbrev pub starts_with : Bytes → Bytes → Bool
starts_with p s = same (take (length p) s) p

-- "sorted by the bytes": the first comes before the second, byte by byte; a front of a string comes before it
unfoldable pub less : Bytes → Bytes → Bool
less xs [] = false
less [] (y ∷ ys) = true
less (x ∷ xs) (y ∷ ys) = cond (eqb x y) (less xs ys) (ltb x y)
