-- The classes of bytes that document 01 names, and `/` as `.`. Every test of a byte against more than one value stands here.
-- Assumes nothing.
use Rattle.std.specs.Prelude.{ℕ, Bool, cond, ◌||◌, ◌&&◌, eqb, leb}
use Rattle.text.specs.Ascii.{byte}

-- `lo` to `hi`, both included
abbrev pub within : ℕ → ℕ → ℕ → Bool
within lo hi b = leb lo b && leb b hi

-- "white space (bytes 9 to 13 and 32)"
abbrev pub is_space : ℕ → Bool
is_space b = within 9 13 b || eqb b 32

abbrev pub is_digit : ℕ → Bool
is_digit b = within (byte "0") (byte "9") b

abbrev pub is_letter : ℕ → Bool
is_letter b = within (byte "A") (byte "Z") b || within (byte "a") (byte "z") b

-- a letter or a digit: what `mangle` keeps
abbrev pub is_alnum : ℕ → Bool
is_alnum b = is_letter b || is_digit b

-- "`$N` and `${N}` take letters, digits, `_`"
abbrev pub is_variable : ℕ → Bool
is_variable b = is_alnum b || eqb b (byte "_")

-- "NAME is 1 to 64 of letters, digits, `_`, `$`, not beginning with a digit or `$`"
abbrev pub opens_name : ℕ → Bool
opens_name b = is_letter b || eqb b (byte "_")

abbrev pub in_name : ℕ → Bool
in_name b = is_variable b || eqb b (byte "$")

-- "Any other word runs to white space or `;`"
abbrev pub ends_plain : ℕ → Bool
ends_plain b = is_space b || eqb b (byte ";")

-- "Is every byte below 128?"
abbrev pub is_ascii : ℕ → Bool
is_ascii b = leb b 127

-- "`/` as `.`"
abbrev pub dot_of : ℕ → ℕ
dot_of b = cond (eqb b (byte "/")) (byte ".") b
