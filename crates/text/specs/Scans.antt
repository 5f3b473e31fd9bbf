-- Laws: scans. The invariant `a ≡ i + ..` keeps the answer a. Each law is stated as a loop's needs ask it, so that `search` finds
-- its premises in what a need is handed.
-- Assumes nothing.
use Rattle.std.specs.Prelude.{◌≡◌, refl, Bool, true, false, cond, not, ◌&&◌, List, [], ◌∷◌, ℕ, suc, ◌+◌, ◌≤◌, ◌<◌, eqb, length, drop, get_or}
use Rattle.std.proofs.Math.Path.{sym}
use Rattle.std.proofs.Common.{ap, ◌∙◌, add-zero, drop_of_length-le, rules, eq-eqb, ne_eqb}
use native.Mathlib.Omega.{arith}
use Rattle.std.proofs.lemmas.Bool.{not-true, not-false}
use Rattle.text.specs.Ascii.{Bytes}
use Rattle.text.specs.Scan.{before, is, up_to, Ends, Free}
use Rattle.text.specs.Lists.{here}
use Rattle.text.specs.Sames.{both}

-- `r` is the flag of the test at i
module _ (p : ℕ → Bool) (s : List ℕ) (i a : ℕ) (inv : a ≡ i + before p (drop i s)) where
  pub before_end : length s ≤ i → i ≤ length s → Ends a (length s) i
  unfolding before
  before_end h g = record { is_at = sym (inv ∙ rw (drop_of_length-le s h, add-zero)); within = g }

  module _ (r : Bool) (h : i < length s) (e : r ≡ p (get_or s i 0)) where
    pub before_stop : r ≡ true → Ends a (length s) i
    unfolding before
    before_stop t = record { is_at = sym (inv ∙ rw (here s i h, ← e, t, add-zero)); within = omega arith }

    pub before_step : r ≡ false → a ≡ (i + 1) + before p (drop (i + 1) s)
    unfolding before
    before_step t = inv ∙ rw (here s i h, ← e, t) (omega arith)

-- the same for one byte, tested by `==`
module _ (b : ℕ) (s : List ℕ) (i a : ℕ) (inv : a ≡ i + up_to b (drop i s)) (h : i < length s) where
  pub find_stop : get_or s i 0 ≡ b → Ends a (length s) i
  find_stop e = before_stop (is b) s i a inv (eqb (get_or s i 0) b) h refl (eq-eqb (get_or s i 0) b e)

  pub find_step : (get_or s i 0 ≡ b → ⊥) → a ≡ (i + 1) + up_to b (drop (i + 1) s)
  find_step e = before_step (is b) s i a inv (eqb (get_or s i 0) b) h refl (ne_eqb (get_or s i 0) b e)

pub before_le : (p : ℕ → Bool) (s : List ℕ) → before p s ≤ length s
unfolding before
before_le p [] = omega arith
before_le p (x ∷ xs) = go (p x) (before_le p xs)
  where
    go : (t : Bool) → before p xs ≤ length xs → cond t 0 (suc (before p xs)) ≤ suc (length xs)
    go true h = omega arith
    go false h = omega arith

pub ruleset scans = (rules, before_end, before_stop, before_step, find_stop, find_step)

-- ---- several bytes at a time

module _ (p : ℕ → Bool) (s : Bytes) where
  -- one byte, and some and some more
  pub free_one : (i : ℕ) (r : Bool) → i < length s → (r ≡ true → p (get_or s i 0) ≡ false) → Free p s i 1 r
  free_one i r h f = record { passed = λ t. omega (arith, before_step p s i (i + before p (drop i s)) refl (p (get_or s i 0)) h refl (f t)) }

  pub free_and : (i n m : ℕ) (a b : Bool) → Free p s i n a → Free p s (i + n) m b → Free p s i (n + m) (a && b)
  free_and i n m a b f g =
      let e : i + n + m ≡ i + (n + m) = omega arith in
      record { passed = λ t. let q = both a b t in f.passed q.0 ∙ (ap (λ k. n + k) (g.passed q.1) ∙ rw e (omega arith)) }

  module _ (i a : ℕ) (inv : a ≡ i + before p (drop i s)) where
    pub free_found : (r : ℕ) → Ends (i + before p (drop i s)) (length s) r → Ends a (length s) r
    free_found r e = record { is_at = e.is_at ∙ sym inv; within = e.within }

    pub free_on : (n : ℕ) (t : Bool) → Free p s i n t → not t ≡ false → a ≡ i + n + before p (drop (i + n) s)
    free_on n t c h = inv ∙ (ap (λ k. i + k) (c.passed (not-false t h)) ∙ omega arith)

-- four bytes that are not b, and four times four
module _ (b : ℕ) (s : Bytes) (i : ℕ) where
  other_here : (j : ℕ) → j < length s → Free (is b) s j 1 (not (eqb (get_or s j 0) b))
  other_here j h = free_one (is b) s j (not (eqb (get_or s j 0) b)) h (not-true (eqb (get_or s j 0) b))

  -- four from i on
  pub free_four : i + 4 ≤ length s → Free (is b) s i 4 (((not (eqb (get_or s i 0) b) && not (eqb (get_or s (i + 1) 0) b)) && not (eqb (get_or s (i + 2) 0) b)) && not (eqb (get_or s (i + 3) 0) b))
  free_four h =
      free_and (is b) s i 3 1 _ _ (free_and (is b) s i 2 1 _ _ (free_and (is b) s i 1 1 _ _ (other_here i (omega arith)) (other_here (i + 1) (omega arith))) (other_here (i + 2) (omega arith))) (other_here (i + 3) (omega arith))

  -- sixteen from i on, four by four
  pub free_sixteen : (v w x y : Bool) → Free (is b) s i 4 v → Free (is b) s (i + 4) 4 w → Free (is b) s (i + 8) 4 x → Free (is b) s (i + 12) 4 y → Free (is b) s i 16 (((v && w) && x) && y)
  free_sixteen v w x y e f g h = free_and (is b) s i 12 4 _ y (free_and (is b) s i 8 4 _ x (free_and (is b) s i 4 4 v w e f) g) h
