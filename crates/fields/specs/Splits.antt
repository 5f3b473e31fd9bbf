-- Laws: a byte string cut at a byte, part by part, in the code's own words: i is where a part begins, e where it ends.
-- Assumes nothing.
use Rattle.std.specs.Prelude.{◌≡◌, refl, ℕ, suc, ◌+◌, ◌-◌, ◌<◌, ◌≤◌, Bool, true, false, cond, List, [], ◌∷◌, length, take, drop, ltb, eqb}
use Rattle.std.proofs.Common.{◌∙◌, suc-add, arith, length-drop, drop-drop, take_all, lt-ltb, le-ltb}
use Rattle.std.proofs.Math.Dec.{leb-suc-suc}
use Rattle.text.specs.Scan.{before, up_to, onto, split_at, Ends}

-- the first part, and the parts after it
pub split_step : (b : ℕ) (xs : List ℕ) → split_at b xs ≡ take (up_to b xs) xs ∷ cond (ltb (up_to b xs) (length xs)) (split_at b (drop (up_to b xs + 1) xs)) []
unfolding before split_at
split_step b [] = refl
split_step b (x ∷ xs) = step (eqb x b) (split_step b xs)
  where
    step : (q : Bool) → split_at b xs ≡ take (up_to b xs) xs ∷ cond (ltb (up_to b xs) (length xs)) (split_at b (drop (up_to b xs + 1) xs)) []
        → cond q ([] ∷ split_at b xs) (onto x (split_at b xs)) ≡
        take (cond q 0 (suc (up_to b xs))) (x ∷ xs) ∷ cond (ltb (cond q 0 (suc (up_to b xs))) (suc (length xs))) (split_at b (drop (cond q 0 (suc (up_to b xs)) + 1) (x ∷ xs))) []
    step true h = simp (lt-ltb 0 (suc (length xs)) (omega arith))
    step false h = rw (h, leb-suc-suc, suc-add)

module _ (b : ℕ) (s : List ℕ) (i e : ℕ) (at : Ends (i + up_to b (drop i s)) (length s) e) where
  pub cut_from : i ≤ e
  cut_from = omega (arith, at.is_at)

  pub cut_length : up_to b (drop i s) ≡ e - i
  cut_length = omega (arith, at.is_at)

  pub cut_more : e < length s → split_at b (drop i s) ≡ take (e - i) (drop i s) ∷ split_at b (drop (e + 1) s)
  cut_more h =
      let n : i + (e - i + 1) ≡ e + 1 = omega (arith, cut_from) in
      split_step b (drop i s) ∙ rw (cut_length, length-drop i s, drop-drop (e - i + 1) i s, n, lt-ltb (e - i) (length s - i) (omega (arith, cut_from)))

  pub cut_last : e ≡ length s → split_at b (drop i s) ≡ drop i s ∷ []
  cut_last h =
      split_step b (drop i s) ∙ rw (cut_length, length-drop i s, le-ltb (e - i) (length s - i) (omega arith), take_all (e - i) (drop i s) (simp (length-drop) (omega arith)))
