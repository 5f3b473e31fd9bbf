-- Worked examples: each is computed from the definitions.
-- Assumes nothing.
use Rattle.std.specs.Prelude.{◌≡◌, refl, Some, None, true, [], ◌∷◌}
use Rattle.text.specs.Ascii.{ascii, byte}
use Rattle.text.specs.Compare.{same, starts_with, less}
use Rattle.text.specs.Scan.{before, up_to, all, split_at}
use Rattle.text.specs.Numbers.{value_from, is_decimal, number_of}

prefix : starts_with (ascii "query_") (ascii "query_power") ≡ true
unfolding same
prefix = refl

order : less (ascii "ab") (ascii "abc") ≡ true
unfolding less
order = refl

parts : split_at (byte "/") (ascii "a//b") ≡ ascii "a" ∷ [] ∷ ascii "b" ∷ []
unfolding split_at
parts = refl

place : up_to (byte "=") (ascii "top=t") ≡ 3
unfolding before
place = refl

number : number_of 999 (ascii "154") ≡ Some 154
unfolding number_of is_decimal all value_from
number = refl

leading_zero : number_of 999 (ascii "00") ≡ None
unfolding number_of is_decimal all value_from same
leading_zero = refl
