-- The first element that passes a test, by its place; and the first such element changed. Assumes nothing.
use Prim.Native.Nat.{ℕ, suc, ◌≤◌, ◌<◌}
use Rattle.std.proofs.Common.{arith, not-suc-le-zero, drop-cons}
use Rattle.std.specs.Prelude.{◌≡◌, Bool, cond, length, get_or, set, drop, None, Some}
use Rattle.std.proofs.Math.Path.{refl}
use Rattle.std.proofs.Math.Bool.{true, false}
use mathlib.Core.List.{List, [], ◌∷◌}
use Rattle.model.specs.Commands.{on_first}

-- how many stand before it; all, where there is none
unfoldable pub first_at : {A : Type 0} → (A → Bool) → List A → ℕ
first_at t [] = 0
first_at t (x ∷ xs) = cond (t x) 0 (suc (first_at t xs))

module _ {A : Type 0} (t : A → Bool) (f : A → A) where
  hit_by : (x : A) (xs : List A) (d : A) (b : Bool) → t x ≡ b → first_at t (x ∷ xs) < suc (length xs) → (first_at t xs < length xs → on_first t f xs ≡ Some (set xs (first_at t xs) (f (get_or xs (first_at t xs) d)))) → on_first t f (x ∷ xs) ≡ Some (set (x ∷ xs) (first_at t (x ∷ xs)) (f (get_or (x ∷ xs) (first_at t (x ∷ xs)) d)))
  unfolding first_at on_first
  hit_by x xs d true e h g = rw e
  hit_by x xs d false e h g =
      let k : suc (first_at t xs) < suc (length xs) = rw e at h in
      rw (e, g (omega arith))

  pub first_hit : (xs : List A) (d : A) → first_at t xs < length xs → on_first t f xs ≡ Some (set xs (first_at t xs) (f (get_or xs (first_at t xs) d)))
  unfolding first_at
  first_hit [] d h = absurd (not-suc-le-zero h)
  first_hit (x ∷ xs) d h = hit_by x xs d (t x) refl h (first_hit xs d)

  miss_by : (x : A) (xs : List A) (b : Bool) → t x ≡ b → suc (length xs) ≤ first_at t (x ∷ xs) → (length xs ≤ first_at t xs → on_first t f xs ≡ None) → on_first t f (x ∷ xs) ≡ None
  unfolding first_at on_first
  miss_by x xs true e h g = let k : suc (length xs) ≤ 0 = rw e at h in absurd (not-suc-le-zero k)
  miss_by x xs false e h g =
      let k : suc (length xs) ≤ suc (first_at t xs) = rw e at h in
      rw (e, g (omega arith))

  pub first_miss : (xs : List A) → length xs ≤ first_at t xs → on_first t f xs ≡ None
  unfolding on_first
  first_miss [] h = refl
  first_miss (x ∷ xs) h = miss_by x xs (t x) refl h (first_miss xs)

-- ---- looking for it from the front: i are passed
module _ {A : Type 0} (t : A → Bool) (xs : List A) (d : A) (i : ℕ) where
  pub first_here : i < length xs → t (get_or xs i d) ≡ true → first_at t (drop i xs) ≡ 0
  unfolding first_at
  first_here h e = rw (drop-cons xs i d h, e)

  pub first_later : i < length xs → t (get_or xs i d) ≡ false → first_at t (drop i xs) ≡ suc (first_at t (drop (suc i) xs))
  unfolding first_at
  first_later h e = rw (drop-cons xs i d h, e)
