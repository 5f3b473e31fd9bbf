-- Laws: whether two byte strings are the same, and which comes first.
-- Assumes nothing.
use Rattle.std.specs.Prelude.{◌≡◌, refl, Bool, true, false, cond, ◌&&◌, List, [], ◌∷◌, ◌++◌, ℕ, suc, ◌+◌, ◌≤◌, ◌<◌, drop, get_or, eqb, ltb, leb}
use Rattle.std.proofs.Math.Path.{sym}
use Rattle.std.proofs.Common.{ap, ◌∙◌, rules}
use native.Mathlib.Omega.{arith}
use Rattle.std.proofs.Math.ListN.{length, drop_of_length-le}
use borrow.Author.Tests.{eq-eqb, ne_eqb, eqb-true, leb-true}
use Rattle.text.specs.Compare.{same, less}
use Rattle.text.specs.Lists.{here}
use Rattle.text.specs.Classes.{within}

-- ---- truth

and_false : (s t : Bool) → false ≡ t → false ≡ s && t
and_false true t e = e
and_false false t e = refl

pub no_true : false ≡ true → ⊥
no_true e = let z : ◌≡◌ {A = ℕ} 0 1 = ap (λ (b : Bool). cond b 1 0) e in absurd (omega arith)

pub both : (x y : Bool) → x && y ≡ true → (x ≡ true) × (y ≡ true)
both true y e = (refl, e)
both false y e = absurd (no_true e)

-- what is within two bounds is no less than the first
pub within_low : (lo hi k : ℕ) → within lo hi k ≡ true → lo ≤ k
within_low lo hi k t = leb-true lo k (both (leb lo k) (leb k hi) t).0

-- ---- the same

pub same_refl : (p : List ℕ) → same p p ≡ true
unfolding same
same_refl [] = refl
same_refl (x ∷ p) = rw (eq-eqb x x refl) (same_refl p)

pub same_eq : (p q : List ℕ) → same p q ≡ true → p ≡ q
unfolding same
same_eq [] [] h = refl
same_eq [] (y ∷ q) h = absurd (no_true h)
same_eq (x ∷ p) [] h = absurd (no_true h)
same_eq (x ∷ p) (y ∷ q) h =
    let b = both (eqb x y) (same p q) h in
    let e : x ≡ y = eqb-true x y b.0 in
    rw (e, same_eq p q b.1)

pub same_of : (p q : List ℕ) → p ≡ q → same p q ≡ true
same_of p q e = rw e (same_refl q)

pub same_turned : (p q : List ℕ) → same p q ≡ same q p
same_turned p q = go (same p q) refl (same q p) refl
  where
    go : (a : Bool) → same p q ≡ a → (b : Bool) → same q p ≡ b → a ≡ b
    go true e true f = refl
    go true e false f = absurd (no_true (sym f ∙ same_of q p (sym (same_eq p q e))))
    go false e true f = absurd (no_true (sym e ∙ same_of p q (sym (same_eq q p f))))
    go false e false f = refl

-- a front that is the same changes nothing
pub same_front : (p q u v : List ℕ) → same p q ≡ true → same (p ++ u) (q ++ v) ≡ same u v
unfolding same
same_front [] [] u v h = refl
same_front [] (y ∷ q) u v h = absurd (no_true h)
same_front (x ∷ p) [] u v h = absurd (no_true h)
same_front (x ∷ p) (y ∷ q) u v h =
    let b = both (eqb x y) (same p q) h in
    rw b.0 (same_front p q u v b.1)

pub differ : (a b : List ℕ) → (length a ≡ length b → ⊥) → false ≡ same a b
unfolding same
differ [] [] h = absurd (h refl)
differ [] (y ∷ ys) h = refl
differ (x ∷ xs) [] h = refl
differ (x ∷ xs) (y ∷ ys) h = and_false (eqb x y) _ (differ xs ys (λ e. h (ap suc e)))

module _ (a b : List ℕ) (i : ℕ) (t : Bool) (inv : t ≡ same (drop i a) (drop i b)) (n : length a ≡ length b) where
  pub same_stop : i < length a → (get_or a i 0 ≡ get_or b i 0 → ⊥) → false ≡ t
  unfolding same
  same_stop h g = sym (inv ∙ rw (here a i h, here b i (omega arith), ne_eqb _ _ g))

  pub same_step : i < length a → get_or a i 0 ≡ get_or b i 0 → t ≡ same (drop (i + 1) a) (drop (i + 1) b)
  unfolding same
  same_step h g = inv ∙ rw (here a i h, here b i (omega arith), eq-eqb _ _ g)

  pub same_end : length a ≤ i → true ≡ t
  unfolding same
  same_end h = let h' : length b ≤ i = omega arith in sym (inv ∙ rw (drop_of_length-le a h, drop_of_length-le b h'))

pub ruleset sames = (rules, differ, same_stop, same_step, same_end)

-- ---- the order

module _ (a b : List ℕ) (i : ℕ) (t : Bool) (inv : t ≡ less (drop i a) (drop i b)) where
  pub order_end : length b ≤ i → false ≡ t
  unfolding less
  order_end h = sym (inv ∙ rw (drop_of_length-le b {i = i} h))

  pub order_short : i < length b → length a ≤ i → true ≡ t
  unfolding less
  order_short h g = sym (inv ∙ rw (here b i h, drop_of_length-le a {i = i} g))

  module _ (h : i < length b) (g : i < length a) where
    pub order_stop : (get_or a i 0 ≡ get_or b i 0 → ⊥) → ltb (get_or a i 0) (get_or b i 0) ≡ t
    unfolding less
    order_stop z = sym (inv ∙ rw (here a i g, here b i h, ne_eqb _ _ z))

    pub order_step : get_or a i 0 ≡ get_or b i 0 → t ≡ less (drop (i + 1) a) (drop (i + 1) b)
    unfolding less
    order_step z = inv ∙ rw (here a i g, here b i h, eq-eqb _ _ z)

pub less_front : (p q u v : List ℕ) → same p q ≡ true → less (p ++ u) (q ++ v) ≡ less u v
unfolding same less
less_front [] [] u v h = refl
less_front [] (y ∷ q) u v h = absurd (no_true h)
less_front (x ∷ p) [] u v h = absurd (no_true h)
less_front (x ∷ p) (y ∷ q) u v h =
    let b = both (eqb x y) (same p q) h in
    rw b.0 (less_front p q u v b.1)

pub ruleset orders = (rules, order_end, order_short, order_stop, order_step)
