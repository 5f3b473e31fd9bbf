-- A name looked up: laws as the needs ask them. Assumes nothing.
use Rattle.std.specs.Prelude.{None}
use Prim.Native.Nat.{◌*◌, ◌+◌, ◌-◌, ◌<◌, ◌≤◌, suc, zero, ℕ}
use mathlib.Core.List.{List, [], ◌++◌, ◌∷◌}
use mathlib.Core.Path.{◌∙◌, ◌≡◌, refl, ap, sym}
use mathlib.Core.Bool.{Bool, ◌||◌, cond, false, true}
use Rattle.std.specs.Prelude.{Option, Some}
use native.Mathlib.Omega.{arith}
use lib.ListN.{get_or-eq_default, drop, get_or, length, take}
use lib.Dec.{eqb, leb}
use borrow.Author.Tests.{eq-eqb, leb-false, leb-true, ne_eqb}
use borrow.Author.Rules.{rules}
use Rattle.spans.specs.declared.span.Span.{Span}
use Rattle.substitution.proofs.Runs.{written_end, written_step}
use Rattle.substitution.specs.Stored.{name_at, value_at, variable_at, variables}
use Rattle.text.specs.Sames.{no_true, same_turned}
use Rattle.substitution.specs.Written.{dropped_by, written}
use Rattle.spans.specs.Span.{◌⋯◌, bytes, found_of, got_of, pair_at}
use Rattle.spans.specs.Frame.{shorter}
use Rattle.tcl.specs.Substitution.{Variable, known, last_or, lookup}
use Rattle.text.specs.Compare.{same}

pub stored_past : (l : List ℕ) (k : ℕ) → length l ≤ k → 0 ⋯ 0 ≡ pair_at l (2 * k)
stored_past l k h =
    let a : length l ≤ 2 * (2 * k) = omega arith in
    let b : length l ≤ 2 * (2 * k) + 1 = omega arith in
    sym (rw (get_or-eq_default l 0 a, get_or-eq_default l 0 b))

pub stored_past_one : (l : List ℕ) (k : ℕ) → length l ≤ k → 0 ⋯ 0 ≡ pair_at l (2 * k + 1)
stored_past_one l k h =
    let a : length l ≤ 2 * (2 * k + 1) = omega arith in
    let b : length l ≤ 2 * (2 * k + 1) + 1 = omega arith in
    sym (rw (get_or-eq_default l 0 a, get_or-eq_default l 0 b))

pub ruleset storeds = (rules, stored_past, stored_past_one)

-- ---- whether so many bytes of a written word are a string

pub record Named (q : Bool) (body mem : List ℕ) (t : Bool) (i left : ℕ) (x : Span) : Type 0 where
  pub keeps : same (take left (written q (drop i body))) (bytes mem x) ≡ t

over_is : (q : Bool) (body : List ℕ) (i left : ℕ) → same (take left (written q (drop i body))) [] ≡ eqb left 0 || leb (length body) i
unfolding same
over_is q body i zero = refl
over_is q body i (suc left) = go (leb (length body) i) refl
  where
    z : suc left ≡ 0 → ⊥
    z e = absurd (omega arith)

    go : (t : Bool) → leb (length body) i ≡ t → same (take (suc left) (written q (drop i body))) [] ≡ eqb (suc left) 0 || t
    go true e = let h : length body ≤ i = leb-true (length body) i e in rw (written_end q body i h, ne_eqb (suc left) 0 z)
    go false e = let h : i < length body = leb-false (length body) i e in rw (written_step q body i (dropped_by q (drop i body)) h refl, ne_eqb (suc left) 0 z)

nothing : (q : Bool) (body : List ℕ) (i left : ℕ) → eqb left 0 || leb (length body) i ≡ true → take left (written q (drop i body)) ≡ []
nothing q body i zero h = refl
nothing q body i (suc left) h =
    let z : suc left ≡ 0 → ⊥ = λ e. absurd (omega arith) in
    let g : length body ≤ i = leb-true (length body) i (rw (ne_eqb (suc left) 0 z) at h) in
    rw (written_end q body i g)

module _ (q : Bool) (body mem : List ℕ) (t : Bool) (i left : ℕ) (x : Span) (inv : Named q body mem t i left x) (p : Option (ℕ × Span)) (e : bytes mem x ≡ got_of mem p) where
  pub named_end : p ≡ None → eqb left 0 || leb (length body) i ≡ t
  named_end h = sym (over_is q body i left) ∙ rw (e, h) at inv.keeps

  module _ (b : ℕ) (u : Span) (h : p ≡ Some (b, u)) where
    pub named_short : eqb left 0 || leb (length body) i ≡ true → false ≡ t
    unfolding same
    named_short g = rw (e, h, nothing q body i left g) at inv.keeps

    module _ (g : eqb left 0 || leb (length body) i ≡ false) where
      pub named_some : 1 ≤ left
      named_some = go left g
        where
          go : (n : ℕ) → eqb n 0 || leb (length body) i ≡ false → 1 ≤ n
          go zero f = absurd (no_true (sym f))
          go (suc n) f = omega arith

      pub named_in : i < length body
      named_in = leb-false (length body) i (go (eqb left 0) g)
        where
          go : (b : Bool) → b || leb (length body) i ≡ false → leb (length body) i ≡ false
          go true f = absurd (no_true (sym f))
          go false f = f

      module _ (k : ℕ) (d : k ≡ dropped_by q (drop i body)) where
        front : take left (written q (drop i body)) ≡ get_or body (i + k) 0 ∷ take (left - 1) (written q (drop (i + 1 + k) body))
        front =
            let s : left ≡ suc (left - 1) = omega (arith, named_some) in
            ap (λ (n : ℕ). take n (written q (drop i body))) s ∙ rw (written_step q body i k named_in d)

        pub named_stop : (get_or body (i + k) 0 ≡ b → ⊥) → false ≡ t
        unfolding same
        named_stop z = rw (e, h, front, ne_eqb (get_or body (i + k) 0) b z) at inv.keeps

        pub named_step : get_or body (i + k) 0 ≡ b → Named q body mem t (i + 1 + k) (left - 1) u
        unfolding same
        named_step z = record { keeps = rw (e, h, front, eq-eqb (get_or body (i + k) 0) b z) at inv.keeps }

pub ruleset nameds = (rules, shorter, named_end, named_short, named_some, named_in, named_stop, named_step)

-- a plain word's bytes are those of its text
module _ (q : Bool) (body mem : List ℕ) (at size : ℕ) (x : Span) (r : Bool) where
  pub plain_is : q ≡ false → (w : List ℕ) → w ≡ take size (drop at body) → r ≡ same (bytes mem x) w → r ≡ same (take size (written q (drop at body))) (bytes mem x)
  unfolding written
  plain_is h w ew e = e ∙ rw (h, ew) (same_turned (bytes mem x) (take size (drop at body)))

pub ruleset plains = (rules, plain_is)

-- ---- the last one of this name

lookup_last : (vs : List Variable) (v : Variable) (n : List ℕ) → lookup (vs ++ (v ∷ [])) n ≡ cond (same n v.name) (Some v.value) (lookup vs n)
unfolding lookup
lookup_last [] v n = refl
lookup_last (u ∷ vs) v n = rw (lookup_last vs v n) (go (same n v.name))
  where
    go : (t : Bool) → last_or (cond t (Some v.value) (lookup vs n)) (same n u.name) u.value ≡ cond t (Some v.value) (last_or (lookup vs n) (same n u.name) u.value)
    go true = refl
    go false = refl

-- the answer of the first n is that of the first k
pub record Looks (mem vars name : List ℕ) (t : Option (List ℕ)) (k : ℕ) : Type 0 where
  pub keeps : lookup (variables mem vars k) name ≡ t

module _ (mem vars name : List ℕ) (t : Option (List ℕ)) (k : ℕ) (inv : Looks mem vars name t k) where
  pub looks_none : k ≤ 0 → found_of mem None ≡ t
  unfolding lookup variables
  looks_none h = let z : k ≡ 0 = omega arith in rw z at inv.keeps

  module _ (h : 0 < k) (s : Span) (e : s ≡ name_at vars (k - 1)) (f : Bool) (g : f ≡ same name (bytes mem s)) where
    step : lookup (variables mem vars k) name ≡ cond f (Some (bytes mem (value_at vars (k - 1)))) (lookup (variables mem vars (k - 1)) name)
    unfolding variables
    step =
        let q : k ≡ suc (k - 1) = omega arith in
        ap (λ (n : ℕ). lookup (variables mem vars n) name) q ∙ lookup_last (variables mem vars (k - 1)) (variable_at mem vars (k - 1)) name ∙ rw (← e, ← g)

    pub looks_hit : (w : Span) → w ≡ value_at vars (k - 1) → f ≡ true → found_of mem (Some w) ≡ t
    looks_hit w x y = rw x (sym (step ∙ rw y) ∙ inv.keeps)

    pub looks_miss : f ≡ false → Looks mem vars name t (k - 1)
    looks_miss y = record { keeps = sym (step ∙ rw y) ∙ inv.keeps }

pub ruleset looks = (rules, looks_none, looks_hit, looks_miss)

-- ---- an unknown or empty name

module _ (q : Bool) (mem vars body : List ℕ) (n at size : ℕ) where
  pub known_none : eqb size 0 || leb (length body) at ≡ true → found_of mem None ≡ known (variables mem vars n) (take size (written q (drop at body)))
  unfolding known
  known_none h = rw (nothing q body at size h)

  pub known_some : (r : Option (List ℕ)) → r ≡ lookup (variables mem vars n) (take size (written q (drop at body))) → eqb size 0 || leb (length body) at ≡ false → r ≡ known (variables mem vars n) (take size (written q (drop at body)))
  unfolding known same
  known_some r e h = e ∙ go (take size (written q (drop at body))) (over_is q body at size ∙ h)
    where
      go : (w : List ℕ) → same w [] ≡ false → lookup (variables mem vars n) w ≡ known (variables mem vars n) w
      go [] g = absurd (no_true (sym g))
      go (x ∷ w) g = refl

pub ruleset knowns = (rules, known_none, known_some)
