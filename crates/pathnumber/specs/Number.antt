-- The number of a text, byte by byte: texts with different numbers differ. Assumes nothing.
use Rattle.std.specs.Prelude.{ℕ, ◌+◌, ◌*◌, ◌%◌, ◌≡◌, refl, [], ◌∷◌, ◌++◌}
use Rattle.text.specs.Ascii.{Bytes}

-- of a text whose number is h, with a byte more
abbrev pub after : ℕ → ℕ → ℕ
after h b = h % 4294967296 * 31 + b

-- of a text whose number is h, with a text behind it
unfoldable pub number : ℕ → Bytes → ℕ
number h [] = h
number h (b ∷ p) = number (after h b) p

pub number_on : (h : ℕ) (p q : Bytes) → number h (p ++ q) ≡ number (number h p) q
unfolding number
number_on h [] q = refl
number_on h (b ∷ p) q = number_on (after h b) p q
