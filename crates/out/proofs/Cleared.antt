-- Laws: what is cleared from a place on. Assumes nothing.
use Rattle.std.specs.Prelude.{ℕ, zero, suc, ◌+◌, ◌-◌, ◌≤◌, ◌≡◌, refl, List, [], ◌∷◌, ◌++◌, length, take, set, replicate}
use Rattle.std.proofs.Common.{add-one, arith, sym, ap, ◌∙◌}
use native.Mathlib.Numerals.{unary_clauses}
use Rattle.out.specs.Clear.{cleared_from}

pub cleared_all : (s : List ℕ) → cleared_from 0 s ≡ replicate (length s) 0
unfolding cleared_from
cleared_all [] = refl
cleared_all (x ∷ s) = ap (λ (r : List ℕ). 0 ∷ r) (cleared_all s)

pub cleared_length : (at : ℕ) (s : List ℕ) → length (cleared_from at s) ≡ length s
unfolding cleared_from
cleared_length zero [] = refl
cleared_length (suc at) [] = refl
cleared_length zero (x ∷ s) = ap suc (cleared_length zero s)
cleared_length (suc at) (x ∷ s) = ap suc (cleared_length at s)

-- nothing is cleared behind the end
pub cleared_none : (at : ℕ) (s : List ℕ) → length s ≤ at → s ≡ cleared_from at s
unfolding cleared_from
cleared_none zero [] h = refl
cleared_none (suc at) [] h = refl
cleared_none zero (x ∷ s) h = absurd (omega arith)
cleared_none (suc at) (x ∷ s) h = ap (λ (r : List ℕ). x ∷ r) (cleared_none at s (omega arith))

-- one store further: what a text and its zeros are, said of a list that is cleared from i on
cleared_store : (i : ℕ) (s : List ℕ) → cleared_from i s ≡ cleared_from i (set s i 0)
unfolding cleared_from
cleared_store zero [] = refl
cleared_store (suc i) [] = refl
cleared_store zero (x ∷ s) = refl
cleared_store (suc i) (x ∷ s) = ap (λ (r : List ℕ). x ∷ r) (cleared_store i s)

cleared_further : (i : ℕ) (s : List ℕ) → cleared_from i (set s i 0) ≡ cleared_from (suc i) (set s i 0)
unfolding cleared_from
cleared_further zero [] = refl
cleared_further (suc i) [] = refl
cleared_further zero (x ∷ s) = refl
cleared_further (suc i) (x ∷ s) = ap (λ (r : List ℕ). x ∷ r) (cleared_further i s)

-- what a loop keeps: t is the answer
pub record Clears (t s : List ℕ) (i : ℕ) : Type 0 where
  pub keeps : cleared_from i s ≡ t

-- where it begins
pub clears_start : (s : List ℕ) (i : ℕ) → Clears (cleared_from i s) s i
clears_start s i = record { keeps = refl }

module _ (t s : List ℕ) (i : ℕ) (inv : Clears t s i) where
  -- a place further
  pub clears_next : Clears t (set s i 0) (i + 1)
  clears_next = record { keeps = rw add-one (sym (cleared_further i s) ∙ sym (cleared_store i s) ∙ inv.keeps) }

  -- where it ends
  pub clears_done : length s ≤ i → s ≡ t
  clears_done h = cleared_none i s h ∙ inv.keeps

-- what a fill from a place on leaves
pub cleared_is : (at : ℕ) (s : List ℕ) → take at s ++ replicate (length s - at) 0 ≡ cleared_from at s
unfolding cleared_from
cleared_is zero [] = refl
cleared_is (suc at) [] = let e : 0 - suc at ≡ 0 = omega arith in ap (λ (n : ℕ). replicate n 0) e
cleared_is zero (x ∷ s) = simp unary_clauses (ap (λ (r : List ℕ). 0 ∷ r) (sym (cleared_all s)))
cleared_is (suc at) (x ∷ s) = simp unary_clauses (ap (λ (r : List ℕ). x ∷ r) (cleared_is at s))

-- a text that stands at the front of a buffer, cleared behind it
pub cleared_text : (text s : List ℕ) → cleared_from (length text) (text ++ s) ≡ text ++ replicate (length s) 0
unfolding cleared_from
cleared_text [] s = cleared_all s
cleared_text (x ∷ text) s = ap (λ (r : List ℕ). x ∷ r) (cleared_text text s)
