-- Laws of tables, once for every table and every view of its records: a table is an array of which the first n elements count. Assumes nothing.
use Rattle.std.specs.Prelude.{ℕ, zero, suc, ◌+◌, ◌≤◌, ◌<◌, ◌≡◌, refl, length, get_or, set, take}
use Rattle.std.proofs.Common.{le_trans, le_of_suc-le-suc, not-suc-le-zero, add-one, arith, ap, ◌∙◌, length-set, take-suc-set, length-take-le, get_or-take}
use mathlib.Core.List.{List, [], ◌∷◌, ◌++◌, map, flat_map, append_assoc, map-append}
use Rattle.std.proofs.lemmas.List.{length-map}
use Rattle.std.proofs.Math.ListN.{get_or-map}
use Rattle.std.proofs.Math.Seq.{take-set-lt}
use Rattle.store.specs.Order.{Within, none_left, one_more, Sized}
use Rattle.store.specs.View.{numbered}

pub map_set : {A B : Type 0} (f : A → B) (l : List A) (i : ℕ) (x : A) → map f (set l i x) ≡ set (map f l) i (f x)
map_set f [] i x = refl
map_set f (y ∷ l) zero x = refl
map_set f (y ∷ l) (suc i) x = ap (λ r. f y ∷ r) (map_set f l i x)

pub flat_append : {A B : Type 0} (f : A → List B) (xs ys : List A) → flat_map f (xs ++ ys) ≡ flat_map f xs ++ flat_map f ys
unfolding flat_map
flat_append f [] ys = refl
flat_append f (x ∷ xs) ys = rw (flat_append f xs ys, append_assoc)

-- ---- elements of a table
module _ {A B : Type 0} (f : A → B) (l : List A) (n : ℕ) where
  -- one more
  pub table_push : (x : A) → n < length l → map f (take (n + 1) (set l n x)) ≡ map f (take n l) ++ (f x ∷ [])
  table_push x h = rw (add-one n, take-suc-set l n x h) (map-append f (take n l) (x ∷ []))

  -- one changed
  pub table_set : (i : ℕ) (x : A) → i < n → map f (take n (set l i x)) ≡ set (map f (take n l)) i (f x)
  table_set i x h = rw (take-set-lt n l i x h) (map_set f (take n l) i x)

  pub table_length : n ≤ length l → length (map f (take n l)) ≡ n
  table_length h = length-map (take n l) f ∙ length-take-le n l h

  pub table_get : (i : ℕ) (d : A) → i < n → get_or (map f (take n l)) i (f d) ≡ f (get_or l i d)
  table_get i d h = get_or-map f (take n l) i d ∙ ap f (get_or-take n l i d h)

-- ---- numbered elements
pub numbered_append : {A B : Type 0} (f : ℕ → A → B) (k : ℕ) (xs ys : List A) → numbered f k (xs ++ ys) ≡ numbered f k xs ++ numbered f (k + length xs) ys
unfolding numbered
numbered_append f k [] ys = let e : k + 0 ≡ k = omega arith in rw e
numbered_append f k (x ∷ xs) ys =
    let e : k + suc (length xs) ≡ k + 1 + length xs = omega arith in
    rw (e, numbered_append f (k + 1) xs ys)

pub numbered_length : {A B : Type 0} (f : ℕ → A → B) (k : ℕ) (xs : List A) → length (numbered f k xs) ≡ length xs
unfolding numbered
numbered_length f k [] = refl
numbered_length f k (x ∷ xs) = ap suc (numbered_length f (k + 1) xs)

pub numbered_push : {A B : Type 0} (f : ℕ → A → B) (l : List A) (n : ℕ) (x : A) → n < length l → numbered f 0 (take (n + 1) (set l n x)) ≡ numbered f 0 (take n l) ++ (f n x ∷ [])
unfolding numbered
numbered_push f l n x h =
    let e : 0 + length (take n l) ≡ n = omega (arith, length-take-le n l (omega arith)) in
    rw (add-one n, take-suc-set l n x h) (numbered_append f 0 (take n l) (x ∷ []) ∙ rw e)

-- ---- the bound on every element
module _ {A : Type 0} (e : A → ℕ) where
  pub within_le : {n k : ℕ} {l : List A} → n ≤ k → Within e n l → Within e k l
  within_le h none_left = none_left
  within_le h (one_more p b) = one_more (le_trans p h) (within_le h b)

  pub within_snoc : {n : ℕ} {l : List A} (x : A) → Within e n l → e x ≤ n → Within e n (l ++ (x ∷ []))
  within_snoc x none_left q = one_more q none_left
  within_snoc x (one_more p b) q = one_more p (within_snoc x b q)

  pub within_append : {n : ℕ} {l m : List A} → Within e n l → Within e n m → Within e n (l ++ m)
  within_append none_left c = c
  within_append (one_more p b) c = one_more p (within_append b c)

  pub within_at : {n : ℕ} (l : List A) (i : ℕ) (d : A) → Within e n l → i < length l → e (get_or l i d) ≤ n
  within_at [] i d b h = absurd (not-suc-le-zero h)
  within_at (x ∷ l) zero d (one_more p b) h = p
  within_at (x ∷ l) (suc i) d (one_more p b) h = within_at l i d b (le_of_suc-le-suc h)

  pub within_set : {n : ℕ} (l : List A) (i : ℕ) (x : A) → Within e n l → e x ≤ n → Within e n (set l i x)
  within_set [] i x b q = b
  within_set (y ∷ l) zero x (one_more p b) q = one_more q b
  within_set (y ∷ l) (suc i) x (one_more p b) q = one_more p (within_set l i x b q)

  pub within_push : {n : ℕ} (l : List A) (k : ℕ) (x : A) → Within e n (take k l) → k < length l → e x ≤ n → Within e n (take (k + 1) (set l k x))
  within_push l k x b h q = rw (add-one k, take-suc-set l k x h) (within_snoc x b q)

  pub within_get : {n : ℕ} (l : List A) (k i : ℕ) (d : A) → Within e n (take k l) → i < k → k ≤ length l → e (get_or l i d) ≤ n
  within_get l k i d b h q = rw (get_or-take k l i d h) at (within_at (take k l) i d b (rw (length-take-le k l q) h))

  pub within_update : {n : ℕ} (l : List A) (k i : ℕ) (x : A) → Within e n (take k l) → i < k → e x ≤ n → Within e n (take k (set l i x))
  within_update l k i x b h q = rw (take-set-lt k l i x h) (within_set (take k l) i x b q)

-- two views that agree on every element within the bound give the same table
pub map_same : {A B : Type 0} (f g : A → B) (e : A → ℕ) {n : ℕ} {l : List A} → Within e n l → ((x : A) → e x ≤ n → g x ≡ f x) → map g l ≡ map f l
map_same f g e none_left h = refl
map_same f g e (one_more {x = x} {xs = xs} p b) h = rw (h x p, map_same f g e b h)

pub map_same₂ : {A B : Type 0} (f g : A → B) (e e' : A → ℕ) {n n' : ℕ} {l : List A} → Within e n l → Within e' n' l → ((x : A) → e x ≤ n → e' x ≤ n' → g x ≡ f x) → map g l ≡ map f l
map_same₂ f g e e' none_left none_left h = refl
map_same₂ f g e e' (one_more {x = x} {xs = xs} p b) (one_more q b') h = rw (h x p q, map_same₂ f g e e' b b' h)

pub flat_same : {A B : Type 0} (f g : A → List B) (e : A → ℕ) {n : ℕ} {l : List A} → Within e n l → ((x : A) → e x ≤ n → g x ≡ f x) → flat_map g l ≡ flat_map f l
unfolding flat_map
flat_same f g e none_left h = refl
flat_same f g e (one_more {x = x} {xs = xs} p b) h = rw (h x p, flat_same f g e b h)

pub numbered_same : {A B : Type 0} (f g : ℕ → A → B) (e : A → ℕ) {n : ℕ} (k : ℕ) {l : List A} → Within e n l → ((j : ℕ) (x : A) → e x ≤ n → g j x ≡ f j x) → numbered g k l ≡ numbered f k l
unfolding numbered
numbered_same f g e k none_left h = refl
numbered_same f g e k (one_more {x = x} {xs = xs} p b) h = rw (h k x p, numbered_same f g e (k + 1) b h)

-- ---- arrays
module _ {A : Type 0} {size : ℕ} where
  pub sized_push : {n : ℕ} {l : List A} (x : A) → Sized size n l → n < size → Sized size (n + 1) (set l n x)
  sized_push {n = n} {l = l} x t h = record { long = length-set l n x ∙ t.long; count = omega arith }

  pub sized_set : {n : ℕ} {l : List A} (i : ℕ) (x : A) → Sized size n l → Sized size n (set l i x)
  sized_set {l = l} i x t = record { long = length-set l i x ∙ t.long; count = t.count }

  pub sized_length : {n : ℕ} {l : List A} {B : Type 0} (f : A → B) → Sized size n l → length (map f (take n l)) ≡ n
  sized_length {n = n} {l = l} f t = table_length f l n (omega (arith, t.long, t.count))
