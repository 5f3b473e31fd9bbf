-- The names of a list that are new behind others: what adding each of them leaves behind what was there.
-- Assumes nothing.
use Rattle.std.specs.Prelude.{◌≡◌, refl, Bool, true, false, cond, ◌||◌, List, [], ◌∷◌, ◌++◌, length}
use Rattle.std.proofs.Common.{ap, ◌∙◌, sym, arith, append_assoc, append-nil, length-append}
use Rattle.std.proofs.Math.Bool.{or-false}
use Rattle.text.specs.Ascii.{Bytes}
use Rattle.text.specs.Compare.{same}
use Rattle.text.specs.Scan.{any}
use Rattle.text.specs.Sames.{same_eq}
use Rattle.design.specs.Lists.{is_in, add_new, add_all}

unfoldable pub fresh : List Bytes → List Bytes → List Bytes
fresh seen [] = []
fresh seen (x ∷ xs) = cond (is_in x seen) (fresh seen xs) (x ∷ fresh (seen ++ (x ∷ [])) xs)

pub added : (l xs : List Bytes) → add_all l xs ≡ l ++ fresh l xs
unfolding fresh add_all add_new
added l [] = sym (append-nil l)
added l (x ∷ xs) = go (is_in x l) (added l xs) (added (l ++ (x ∷ [])) xs)
  where
    go : (b : Bool) → add_all l xs ≡ l ++ fresh l xs → add_all (l ++ (x ∷ [])) xs ≡ (l ++ (x ∷ [])) ++ fresh (l ++ (x ∷ [])) xs
        → add_all (cond b l (l ++ (x ∷ []))) xs ≡ l ++ cond b (fresh l xs) (x ∷ fresh (l ++ (x ∷ [])) xs)
    go true e f = e
    go false e f = f ∙ append_assoc l (x ∷ []) (fresh (l ++ (x ∷ [])) xs)

-- ---- membership
pub in_append : (y : Bytes) (s t : List Bytes) → is_in y (s ++ t) ≡ is_in y s || is_in y t
unfolding any
in_append y [] t = refl
in_append y (x ∷ s) t = rw (in_append y s t) (go (same y x))
  where
    go : (b : Bool) → b || (is_in y s || is_in y t) ≡ (b || is_in y s) || is_in y t
    go true = refl
    go false = refl

-- only membership counts
pub fresh_same : (s t xs : List Bytes) → ((y : Bytes) → is_in y s ≡ is_in y t) → fresh s xs ≡ fresh t xs
unfolding fresh
fresh_same s t [] h = refl
fresh_same s t (x ∷ xs) h = rw (h x) (go (is_in x t) (fresh_same s t xs h) (fresh_same (s ++ (x ∷ [])) (t ++ (x ∷ [])) xs more))
  where
    more : (y : Bytes) → is_in y (s ++ (x ∷ [])) ≡ is_in y (t ++ (x ∷ []))
    more y = rw (in_append y s (x ∷ []), in_append y t (x ∷ []), h y)

    go : (b : Bool) → fresh s xs ≡ fresh t xs → fresh (s ++ (x ∷ [])) xs ≡ fresh (t ++ (x ∷ [])) xs → cond b (fresh s xs) (x ∷ fresh (s ++ (x ∷ [])) xs) ≡ cond b (fresh t xs) (x ∷ fresh (t ++ (x ∷ [])) xs)
    go true e f = e
    go false e f = ap (λ (l : List Bytes). x ∷ l) f

-- a name that was seen changes nothing where it is seen again
pub fresh_old : (s : List Bytes) (x : Bytes) (xs : List Bytes) → is_in x s ≡ true → fresh s (x ∷ xs) ≡ fresh (s ++ (x ∷ [])) xs
unfolding fresh any
fresh_old s x xs h = rw h (fresh_same s (s ++ (x ∷ [])) xs (λ y. sym (in_append y s (x ∷ []) ∙ (rw (or-false (same y x)) (go y (same y x) refl)))))
  where
    go : (y : Bytes) (b : Bool) → same y x ≡ b → is_in y s || b ≡ is_in y s
    go y true e = rw (same_eq y x e, h)
    go y false e = or-false (is_in y s)

pub fresh_new : (s : List Bytes) (x : Bytes) (xs : List Bytes) → is_in x s ≡ false → fresh s (x ∷ xs) ≡ x ∷ fresh (s ++ (x ∷ [])) xs
unfolding fresh
fresh_new s x xs h = rw h

-- what stands in front of the same rest is the same
pub one_front : (ys zs : List Bytes) (x : Bytes) → ys ++ zs ≡ x ∷ zs → ys ≡ x ∷ []
one_front [] zs x e = absurd (omega (arith, ap length e))
one_front (y ∷ []) zs x e = let z : y ≡ x = cc in rw z
one_front (y ∷ w ∷ ys) zs x e = absurd (omega (arith, ap length e, length-append ys zs))
