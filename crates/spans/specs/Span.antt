-- How a span stands for a byte string: a place and a length in one list, which is the joined files followed by the area.
-- Assumes nothing.
use Rattle.std.specs.Prelude.{ℕ, zero, suc, ◌+◌, ◌*◌, List, [], ◌∷◌, map, take, drop, get_or, Option, None, Some}
use Rattle.text.specs.Ascii.{Bytes}
use Rattle.spans.specs.declared.span.Span.{Span}

infix 55 ◌⋯◌
abbrev pub ◌⋯◌ : ℕ → ℕ → Span
a ⋯ l = record { at = a; len = l }

-- the bytes of a span; what runs past the end has those that are there
unfoldable pub bytes : Bytes → Span → Bytes
bytes mem s = take s.len (drop s.at mem)

-- a string by its first byte
abbrev pub got_of : Bytes → Option (ℕ × Span) → Bytes
got_of mem (Some (b, s)) = b ∷ bytes mem s
got_of mem None = []

-- a string that was looked for
abbrev pub found_of : Bytes → Option Span → Option Bytes
found_of mem (Some s) = Some (bytes mem s)
found_of mem None = None

-- ---- spans stored as numbers, two each

abbrev pub pair_at : List ℕ → ℕ → Span
pair_at nums k = get_or nums (2 * k) 0 ⋯ get_or nums (2 * k + 1) 0

-- n of them, from the k-th on
unfoldable pub pairs : List ℕ → ℕ → ℕ → List Span
pairs nums k zero = []
pairs nums k (suc n) = pair_at nums k ∷ pairs nums (k + 1) n

-- and the strings that they stand for
abbrev pub strings : Bytes → List ℕ → ℕ → ℕ → List Bytes
strings mem nums k n = map (bytes mem) (pairs nums k n)
