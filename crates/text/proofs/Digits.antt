-- Decimal numbers, one digit further. Assumes nothing.
use Rattle.std.specs.Prelude.{◌≡◌, refl, ℕ, ◌+◌, ◌-◌, ◌*◌, ◌<◌, ◌≤◌, true, false, cond, ◌&&◌, List, [], ◌∷◌, length, drop, get_or, Option, Some, None}
use Rattle.std.proofs.Common.{sym, ◌∙◌, arith, leb, drop_of_length-le, le-leb, ne_eqb}
use Rattle.std.proofs.lemmas.Bool.{lt-leb}
use Rattle.std.proofs.Math.Bool.{and-true, and-false, or-true}
use Rattle.text.specs.Compare.{same}
use Rattle.text.specs.Scan.{all}
use Rattle.text.specs.Classes.{is_digit}
use Rattle.text.specs.Numbers.{is_decimal, value_from, number_of}
use Rattle.text.specs.Lists.{here}

-- what is left of a number, n having been read
unfoldable pub left : ℕ → ℕ → List ℕ → Option ℕ
left most n w = cond (all is_digit w && leb (value_from n w) most) (Some (value_from n w)) None

-- the answer, where n has been read of i digits
pub record Left (most : ℕ) (s : List ℕ) (n i : ℕ) : Type 0 where
  pub keeps : number_of most s ≡ left most n (drop i s)

value_grows : (n : ℕ) (w : List ℕ) → n ≤ value_from n w
unfolding value_from
value_grows n [] = omega arith
value_grows n (d ∷ ds) = omega (arith, value_grows (n * 10 + (d - 48)) ds)

-- ---- before the loop

pub number_none : (s : List ℕ) (most : ℕ) → length s < 1 → None ≡ number_of most s
unfolding number_of is_decimal
number_none [] most h = refl
number_none (x ∷ s) most h = absurd (omega arith)

pub number_zeros : (s : List ℕ) (most : ℕ) → 2 ≤ length s → get_or s 0 0 ≡ 48 → None ≡ number_of most s
unfolding number_of is_decimal same
number_zeros [] most h e = refl
number_zeros (x ∷ []) most h e = absurd (omega arith)
number_zeros (x ∷ y ∷ s) most h e = rw e (simp and-false)

pub left_start : (s : List ℕ) (most : ℕ) → 1 ≤ length s → (2 ≤ length s → get_or s 0 0 ≡ 48 → ⊥) → Left most s 0 0
unfolding left number_of is_decimal all same
left_start [] most h e = absurd (omega arith)
left_start (x ∷ []) most h e = record { keeps = simp (or-true, and-true) }
left_start (x ∷ y ∷ s) most h e = record { keeps = simp (ne_eqb x 48 (e (omega arith)), and-true) }

-- ---- in it

module _ (most : ℕ) (s : List ℕ) (n i : ℕ) (inv : Left most s n i) where
  pub left_end : length s ≤ i → n ≤ most → Some n ≡ number_of most s
  unfolding left all value_from
  left_end h l = sym (inv.keeps ∙ rw (drop_of_length-le s {i = i} h) (simp (le-leb n most l)))

  module _ (h : i < length s) where
    pub left_other : false ≡ is_digit (get_or s i 0) → None ≡ number_of most s
    unfolding left all
    left_other e = sym (inv.keeps ∙ rw (here s i h, ← e))

    module _ (e : true ≡ is_digit (get_or s i 0)) where
      pub left_next : Left most s (n * 10 + (get_or s i 0 - 48)) (i + 1)
      unfolding left all value_from
      left_next = record { keeps = inv.keeps ∙ rw (here s i h, ← e) }

      pub left_over : most < n * 10 + (get_or s i 0 - 48) → None ≡ number_of most s
      unfolding left
      left_over o = sym (left_next.keeps ∙ simp (lt-leb (value_from (n * 10 + (get_or s i 0 - 48)) (drop (i + 1) s)) most (omega (arith, value_grows (n * 10 + (get_or s i 0 - 48)) (drop (i + 1) s))), and-false))

pub ruleset digits = (number_none, number_zeros, left_start, left_end, left_other, left_next, left_over)
