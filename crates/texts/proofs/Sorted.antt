-- "The isolation checks in a domain's block are a set, sorted by the bytes of signal, active value and strategy."
-- Assumes nothing.
use Rattle.std.specs.Prelude.{◌≡◌, refl, ◌⊎◌, ◌↔◌, Bool, true, false, cond, ◌&&◌, List, [], ◌∷◌, map, eqb, ltb}
use Rattle.std.proofs.Common.{sym, ap, subst, ◌∙◌, inl, inr, ⊎_elim, arith, eqb-true, eq-eqb, ne_eqb, ltb-true, ltb-false, lt-ltb}
use mathlib.Core.List.Memᴰ.{cases_cons}
use mathlib.Core.List.Memᴰ.{cast}
use mathlib.Core.List.Memᴰ.{head as here}
use mathlib.Core.List.Memᴰ.{map as mem-map}
use mathlib.Core.List.Memᴰ.{not-nil}
use mathlib.Core.List.Memᴰ.{tail as there}
use mathlib.Core.List.{Memᴰ as Mem}
use Rattle.std.proofs.lemmas.Bool.{eqb-false}
use Rattle.text.specs.Ascii.{Bytes}
use Rattle.text.specs.Compare.{same, less}
use Rattle.text.specs.Sames.{no_true, both, same_refl, same_eq}
use Rattle.design.specs.Lists.{those}
use Rattle.design.specs.Laws.{which, not_both, map_mem, those_mem, mem_those}
use Rattle.model.specs.Records.{Domain}
use Rattle.texts.specs.Setting.{Setting}
use Rattle.texts.specs.Isolation.{Isolated}
use Rattle.texts.specs.Domains.{Check, earlier, is_same, sorted_in_lem, sorted, check_of, belongs, checks}
use Rattle.texts.specs.Sorted.{Ascending}

-- ---- the order of byte strings

pub less_self : (a : Bytes) → less a a ≡ false
unfolding less
less_self [] = refl
less_self (x ∷ a) = rw (eq-eqb x x refl) (less_self a)

less_total : (a b : Bytes) → same a b ≡ false → less a b ≡ false → less b a ≡ true
unfolding less same
less_total [] [] d h = absurd (no_true (sym d))
less_total [] (y ∷ b) d h = absurd (no_true (sym h))
less_total (x ∷ a) [] d h = refl
less_total (x ∷ a) (y ∷ b) d h = go (eqb x y) refl d h (less_total a b)
  where
    go : (e : Bool) → eqb x y ≡ e → e && same a b ≡ false → cond e (less a b) (ltb x y) ≡ false → (same a b ≡ false → less a b ≡ false → less b a ≡ true) → cond (eqb y x) (less b a) (ltb y x) ≡ true
    go true e d h ih = rw (eq-eqb y x (sym (eqb-true x y e))) (ih d h)
    go false e d h ih =
        let n : x ≡ y → ⊥ = eqb-false x y e in
        let l = ltb-false x y h in
        rw (ne_eqb y x (λ z. n (sym z)), lt-ltb y x (omega arith))

less_trans : (a b c : Bytes) → less a b ≡ true → less b c ≡ true → less a c ≡ true
unfolding less
less_trans a [] c h g = absurd (no_true h)
less_trans a (y ∷ b) [] h g = absurd (no_true g)
less_trans [] (y ∷ b) (z ∷ c) h g = refl
less_trans (x ∷ a) (y ∷ b) (z ∷ c) h g = go (eqb x y) (eqb y z) refl refl h g (less_trans a b c)
  where
    go : (e f : Bool) → eqb x y ≡ e → eqb y z ≡ f → cond e (less a b) (ltb x y) ≡ true → cond f (less b c) (ltb y z) ≡ true → (less a b ≡ true → less b c ≡ true → less a c ≡ true) → cond (eqb x z) (less a c) (ltb x z) ≡ true
    go true true e f h g ih = rw (eq-eqb x z (eqb-true x y e ∙ eqb-true y z f)) (ih h g)
    go true false e f h g ih = rw (eqb-true x y e, f) g
    go false true e f h g ih = rw (← eqb-true y z f, e) h
    go false false e f h g ih =
        let l = ltb-true x y h in
        let k = ltb-true y z g in
        rw (ne_eqb x z (λ q. omega arith), lt-ltb x z (omega arith))

-- ---- one string before another, then what is behind them

abbrev lexical : Bytes → Bytes → Bool → Bool
lexical x y inner = cond (same x y) inner (less x y)

-- two that are not the same
not_same : (x y : Bytes) → same x y ≡ false → same y x ≡ false
not_same x y d = ⊎_elim (λ e. absurd (not_both (subst (λ (u : Bytes). same x u ≡ true) (sym (same_eq y x e)) (same_refl x)) d)) (λ e. e) (which (same y x))

lexical_total : (x y : Bytes) (i k : Bool) → lexical x y i ≡ false → (same x y ≡ true → i ≡ false → k ≡ true) → lexical y x k ≡ true
lexical_total x y i k h f = go (same x y) refl h
  where
    go : (b : Bool) → same x y ≡ b → cond b i (less x y) ≡ false → lexical y x k ≡ true
    go true e h = rw (same_eq x y e, same_refl y) (f e h)
    go false e h = rw (not_same x y e) (less_total x y e h)

lexical_trans : (x y z : Bytes) (i k r : Bool) → (i ≡ true → k ≡ true → r ≡ true) → lexical x y i ≡ true → lexical y z k ≡ true → lexical x z r ≡ true
lexical_trans x y z i k r f h g = go (same x y) (same y z) refl refl h g
  where
    apart : less x y ≡ true → less y z ≡ true → same x z ≡ false
    apart l m = ⊎_elim (λ e. absurd (not_both (less_trans x y x l (subst (λ (u : Bytes). less y u ≡ true) (sym (same_eq x z e)) m)) (less_self x))) (λ e. e) (which (same x z))

    go : (b c : Bool) → same x y ≡ b → same y z ≡ c → cond b i (less x y) ≡ true → cond c k (less y z) ≡ true → lexical x z r ≡ true
    go true true e d h g = rw (same_eq x y e, same_eq y z d, same_refl z) (f h g)
    go true false e d h g = rw (same_eq x y e, d) g
    go false true e d h g = rw (← same_eq y z d, e) h
    go false false e d h g = rw (apart h g) (less_trans x y z h g)

-- ---- the order of checks

pub earlier_self : (a : Check) → earlier a a ≡ false
earlier_self a = rw (same_refl a.signal, same_refl a.active) (less_self a.strategy)

pub earlier_trans : (a b c : Check) → earlier a b ≡ true → earlier b c ≡ true → earlier a c ≡ true
earlier_trans a b c h g =
    lexical_trans a.signal b.signal c.signal _ _ _
    (λ i k. lexical_trans a.active b.active c.active _ _ _ (less_trans a.strategy b.strategy c.strategy) i k)
    h g

earlier_total : (a b : Check) → is_same a b ≡ false → earlier a b ≡ false → earlier b a ≡ true
earlier_total a b d h =
    lexical_total a.signal b.signal _ _ h
    (λ e i. lexical_total a.active b.active _ _ i (λ f k. less_total a.strategy b.strategy (differs e f) k))
  where
    differs : same a.signal b.signal ≡ true → same a.active b.active ≡ true → same a.strategy b.strategy ≡ false
    differs e f = rw (e, f) at d

abbrev made : Bytes → Bytes → Bytes → Check
made x y z = record { signal = x; active = y; strategy = z }

same_check : (a b : Check) → is_same a b ≡ true → a ≡ b
same_check a b h =
    let r = both (same a.signal b.signal) (same a.active b.active && same a.strategy b.strategy) h in
    let q = both (same a.active b.active) (same a.strategy b.strategy) r.1 in
    ap (λ (x : Bytes). made x a.active a.strategy) (same_eq a.signal b.signal r.0)
    ∙ ap (λ (y : Bytes). made b.signal y a.strategy) (same_eq a.active b.active q.0)
    ∙ ap (λ (z : Bytes). made b.signal b.active z) (same_eq a.strategy b.strategy q.1)

-- ---- a sorted list without doubles: each comes before all that stand behind it
in_from : (a : Check) (l : List Check) {c : Check} → Mem c (sorted_in_lem a l) → (c ≡ a) ⊎ Mem c l
unfolding sorted_in_lem
in_from a [] m = cases_cons m
in_from a (b ∷ bs) {c} m = go (is_same a b) (earlier a b) m (in_from a bs)
  where
    go : (x y : Bool) → Mem c (cond x (b ∷ bs) (cond y (a ∷ b ∷ bs) (b ∷ sorted_in_lem a bs))) → (Mem c (sorted_in_lem a bs) → (c ≡ a) ⊎ Mem c bs) → (c ≡ a) ⊎ Mem c (b ∷ bs)
    go true y m ih = inr m
    go false true m ih = cases_cons m
    go false false m ih = ⊎_elim (λ e. inr (here e)) (λ n. ⊎_elim (λ e. inl e) (λ r. inr (there r)) (ih n)) (cases_cons m)

in_old : (a : Check) (l : List Check) {c : Check} → Mem c l → Mem c (sorted_in_lem a l)
unfolding sorted_in_lem
in_old a [] m = absurd (not-nil m)
in_old a (b ∷ bs) {c} m = go (is_same a b) (earlier a b) (in_old a bs)
  where
    go : (x y : Bool) → (Mem c bs → Mem c (sorted_in_lem a bs)) → Mem c (cond x (b ∷ bs) (cond y (a ∷ b ∷ bs) (b ∷ sorted_in_lem a bs)))
    go true y ih = m
    go false true ih = there m
    go false false ih = ⊎_elim (λ e. here e) (λ n. there (ih n)) (cases_cons m)

in_new : (a : Check) (l : List Check) → Mem a (sorted_in_lem a l)
unfolding sorted_in_lem
in_new a [] = here refl
in_new a (b ∷ bs) = go (is_same a b) (earlier a b) refl (in_new a bs)
  where
    go : (x y : Bool) → is_same a b ≡ x → Mem a (sorted_in_lem a bs) → Mem a (cond x (b ∷ bs) (cond y (a ∷ b ∷ bs) (b ∷ sorted_in_lem a bs)))
    go true y e ih = here (same_check a b e)
    go false true e ih = here refl
    go false false e ih = there ih

in_ascends : (a : Check) (l : List Check) → Ascending l → Ascending (sorted_in_lem a l)
unfolding sorted_in_lem
in_ascends a [] h = (λ b m. absurd (not-nil m), tt)
in_ascends a (b ∷ bs) h = go (is_same a b) (earlier a b) refl refl (in_ascends a bs h.1)
  where
    go : (x y : Bool) → is_same a b ≡ x → earlier a b ≡ y → Ascending (sorted_in_lem a bs) → Ascending (cond x (b ∷ bs) (cond y (a ∷ b ∷ bs) (b ∷ sorted_in_lem a bs)))
    go true y d e ih = h
    go false true d e ih = (λ c m. ⊎_elim (λ q. subst (λ (u : Check). earlier a u ≡ true) (sym q) e) (λ n. earlier_trans a b c e (h.0 c n)) (cases_cons m), h)
    go false false d e ih = (λ c m. ⊎_elim (λ q. subst (λ (u : Check). earlier b u ≡ true) (sym q) (earlier_total a b d e)) (λ n. h.0 c n) (in_from a bs m), ih)

sorted_ascends : (l : List Check) → Ascending (sorted l)
unfolding sorted
sorted_ascends [] = tt
sorted_ascends (a ∷ l) = in_ascends a (sorted l) (sorted_ascends l)

sorted_from : (l : List Check) {c : Check} → Mem c (sorted l) → Mem c l
unfolding sorted
sorted_from [] m = m
sorted_from (a ∷ l) m = ⊎_elim (λ e. here e) (λ n. there (sorted_from l n)) (in_from a (sorted l) m)

sorted_has : (l : List Check) {c : Check} → Mem c l → Mem c (sorted l)
unfolding sorted
sorted_has [] m = m
sorted_has (a ∷ l) m = ⊎_elim (λ e. cast e (in_new a (sorted l))) (λ n. in_old a (sorted l) (sorted_has l n)) (cases_cons m)

-- ---- the checks of a domain's block

module _ (s : Setting) (ps : List Isolated) (d : Domain) where
  -- "sorted by the bytes of signal, active value and strategy", each one time
  pub checks_ascend : Ascending (checks s ps d)
  checks_ascend = sorted_ascends (map check_of (those (belongs s d) ps))

  -- they are those of the isolated ports whose strategy is one of the domain, by its name
  pub checks_are : (c : Check) → Mem c (checks s ps d) ↔ ((p : Isolated) × Mem p ps × (belongs s d p ≡ true) × (c ≡ check_of p))
  checks_are c = (
    λ m.
        let r = map_mem check_of (those (belongs s d) ps) (sorted_from (map check_of (those (belongs s d) ps)) m) in
        let q = those_mem (belongs s d) ps r.1 in
        (r.0, q.0, q.1, r.2),
    λ h. sorted_has (map check_of (those (belongs s d) ps)) (cast h.3 (mem-map check_of (mem_those (belongs s d) ps h.1 h.2))),
  )
