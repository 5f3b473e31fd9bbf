-- Decimal numbers: "decimal, no leading zero but for 0".
-- Assumes nothing.
use Rattle.std.specs.Prelude.{Option, Some, None, ℕ, ◌+◌, ◌-◌, ◌*◌, Bool, false, cond, not, ◌&&◌, ◌||◌, [], ◌∷◌, eqb, leb}
use Rattle.text.specs.Ascii.{Bytes, byte}
use Rattle.text.specs.Classes.{is_digit}
use Rattle.text.specs.Compare.{same}
use Rattle.text.specs.Scan.{all}

-- the value of digits, n standing for those before them
unfoldable pub value_from : ℕ → Bytes → ℕ
value_from n [] = n
value_from n (d ∷ ds) = value_from (n * 10 + (d - byte "0")) ds

unfoldable pub is_decimal : Bytes → Bool
is_decimal [] = false
is_decimal (d ∷ ds) = all is_digit (d ∷ ds) && (not (eqb d (byte "0")) || same ds [])

-- a decimal number of at most `most`, or none
unfoldable pub number_of : ℕ → Bytes → Option ℕ
number_of most w = cond (is_decimal w && leb (value_from 0 w) most) (Some (value_from 0 w)) None
