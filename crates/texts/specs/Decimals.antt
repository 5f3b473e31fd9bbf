-- Laws: `decimal n` is the decimal numeral of n. Its digits have the value n, and there is no zero in front.
-- Assumes nothing.
use Rattle.std.specs.Prelude.{ℕ, zero, suc, ◌+◌, ◌-◌, ◌*◌, ◌/◌, ◌%◌, ◌^◌, ◌<◌, ◌≡◌, refl, Bool, true, false, not, [], ◌∷◌, ◌++◌, eqb}
use Rattle.std.proofs.Math.Nat.{pow-zero}
use Rattle.std.proofs.Common.{pow-suc, arith, ⊎_elim, lt-ltb, le-ltb, le-leb, ne_eqb}
use Rattle.text.specs.Ascii.{Bytes, byte}
use Rattle.text.specs.Classes.{is_digit}
use Rattle.text.specs.Compare.{same}
use Rattle.text.specs.Numbers.{value_from, is_decimal}
use Rattle.text.specs.Scan.{all}
use Rattle.text.specs.Sames.{no_true}
use Rattle.out.specs.Number.{dec, decimal}
use Rattle.design.specs.Laws.{le_or_lt}
use Rattle.texts.specs.Laws.{all_append}

-- ---- the value

value_snoc : (a : ℕ) (ds : Bytes) (x : ℕ) → value_from a (ds ++ (x ∷ [])) ≡ value_from a ds * 10 + (x - byte "0")
unfolding value_from
value_snoc a [] x = refl
value_snoc a (d ∷ ds) x = value_snoc (a * 10 + (d - byte "0")) ds x

-- a number of at most f + 1 digits is one digit, or has at most f before its last
shorter : (f n : ℕ) → n < 10 ^ suc f → n / 10 < 10 ^ f
shorter f n h = let p : n < 10 ^ f * 10 = rw pow-suc at h in omega arith

value_dec : (f n : ℕ) → n < 10 ^ f → value_from 0 (dec f n) ≡ n
unfolding dec value_from
value_dec zero n h = let z : n < 1 = rw pow-zero at h in omega arith
value_dec (suc f) n h =
    ⊎_elim
    (λ many. rw (le-ltb n 10 many, value_snoc 0 (dec f (n / 10)) (byte "0" + n % 10), value_dec f (n / 10) (shorter f n h)) (omega arith))
    (λ one. rw (lt-ltb n 10 one) (omega arith))
    (le_or_lt 10 n)

-- ---- its digits

digit : (n : ℕ) → n < 10 → is_digit (byte "0" + n) ≡ true
digit n h = rw (le-leb (byte "0") (byte "0" + n) (omega arith), le-leb (byte "0" + n) (byte "9") (omega arith))

digits : (f n : ℕ) → all is_digit (dec f n) ≡ true
unfolding dec all
digits zero n = refl
digits (suc f) n =
    ⊎_elim
    (λ many. rw (le-ltb n 10 many) (all_append is_digit (dec f (n / 10)) ((byte "0" + n % 10) ∷ []) (digits f (n / 10)) (rw (digit (n % 10) (omega arith)))))
    (λ one. rw (lt-ltb n 10 one, digit n one))
    (le_or_lt 10 n)

-- it begins with a digit other than `0`
abbrev opens : Bytes → Bool
opens [] = false
opens (d ∷ ds) = not (eqb d (byte "0"))

opens_append : (ds es : Bytes) → opens ds ≡ true → opens (ds ++ es) ≡ true
opens_append [] es h = absurd (no_true h)
opens_append (d ∷ ds) es h = h

opens_dec : (f n : ℕ) → 0 < n → n < 10 ^ f → opens (dec f n) ≡ true
unfolding dec
opens_dec zero n z h = let y : n < 1 = rw pow-zero at h in absurd (omega arith)
opens_dec (suc f) n z h =
    ⊎_elim
    (λ many. rw (le-ltb n 10 many) (opens_append (dec f (n / 10)) ((byte "0" + n % 10) ∷ []) (opens_dec f (n / 10) (omega arith) (shorter f n h))))
    (λ one. rw (lt-ltb n 10 one, ne_eqb (byte "0" + n) (byte "0") (λ e. omega arith)))
    (le_or_lt 10 n)

opened : (ds : Bytes) → all is_digit ds ≡ true → opens ds ≡ true → is_decimal ds ≡ true
unfolding is_decimal
opened [] a o = absurd (no_true o)
opened (d ∷ ds) a o = rw (a, o)

-- ---- what is printed

-- the digits of `decimal n` have the value n
pub decimal_value : (n : ℕ) → n < 10 ^ 20 → value_from 0 (decimal n) ≡ n
decimal_value n h = value_dec 20 n h

-- "decimal, no leading zero but for 0"
pub decimal_form : (n : ℕ) → n < 10 ^ 20 → is_decimal (decimal n) ≡ true
unfolding is_decimal dec all same
decimal_form zero h = refl
decimal_form (suc n) h = opened (decimal (suc n)) (digits 20 (suc n)) (opens_dec 20 (suc n) (omega arith) h)
