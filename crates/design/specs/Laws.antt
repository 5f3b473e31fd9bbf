-- Laws: tests with their equations, and membership in lists that are mapped, joined, tested, looked up in, or grown by what is new.
-- Assumes nothing.
use Rattle.std.specs.Prelude.{ℕ, ◌≤◌, ◌<◌, ◌≡◌, refl, ◌⊎◌, Bool, true, false, cond, ◌||◌, leb, Option, None, Some}
use Rattle.std.proofs.Common.{sym, ap, subst, ◌∙◌, inl, inr, ⊎_elim, arith, leb-true, leb-false}
use Rattle.std.proofs.Math.Logic.{⊎_map}
use mathlib.Core.List.{List, [], ◌∷◌, ◌++◌, map, flat_map}
use mathlib.Core.List.Memᴰ.{cases_cons}
use mathlib.Core.List.Memᴰ.{head as here}
use mathlib.Core.List.Memᴰ.{not-nil}
use mathlib.Core.List.Memᴰ.{tail as there}
use mathlib.Core.List.{Memᴰ as Mem}
use mathlib.Core.List.Memᴰ.{append_cases}
use mathlib.Core.List.Memᴰ.{append_left as on-left}
use mathlib.Core.List.Memᴰ.{append_right as on-right}
use mathlib.Core.List.Memᴰ.{cast}
use mathlib.Core.List.Memᴰ.{eq_of_singleton as eq-single}
use Rattle.text.specs.Ascii.{Bytes}
use Rattle.text.specs.Compare.{same}
use Rattle.text.specs.Scan.{any}
use Rattle.text.specs.Sames.{no_true, same_eq, same_refl}
use Rattle.design.specs.Lists.{on_some, first, those, is_in, add_new, add_all}

-- ---- a test, with its equation

pub which : (b : Bool) → (b ≡ true) ⊎ (b ≡ false)
which true = inl refl
which false = inr refl

pub not_both : {b : Bool} → b ≡ true → b ≡ false → ⊥
not_both t f = no_true (sym f ∙ t)

pub le_or_lt : (a b : ℕ) → (a ≤ b) ⊎ (b < a)
le_or_lt a b = ⊎_map (leb-true a b) (leb-false a b) (which (leb a b))

pub or_cases : (a b : Bool) → (a || b) ≡ true → (a ≡ true) ⊎ (b ≡ true)
or_cases true b e = inl refl
or_cases false b e = inr e

pub or_right : (a b : Bool) → b ≡ true → (a || b) ≡ true
or_right true b e = refl
or_right false b e = e

-- ---- one of a list

pub is_same_lem : (s t : Bytes) → s ≡ t → same s t ≡ true
is_same_lem s t e = subst (λ (u : Bytes). same s u ≡ true) e (same_refl s)

pub is_in_mem : (s : Bytes) (l : List Bytes) → is_in s l ≡ true → Mem s l
unfolding any
is_in_mem s [] e = absurd (no_true e)
is_in_mem s (t ∷ l) e = ⊎_elim (λ h. here (same_eq s t h)) (λ h. there (is_in_mem s l h)) (or_cases (same s t) (is_in s l) e)

pub mem_is_in : {s : Bytes} {l : List Bytes} → Mem s l → is_in s l ≡ true
unfolding any
mem_is_in {s} (here {x = t} {xs = l} e) = rw (is_same_lem s t e)
mem_is_in {s} (there {x = t} {xs = l} m) = or_right (same s t) (is_in s l) (mem_is_in m)

pub is_in_out : (s : Bytes) (l : List Bytes) → is_in s l ≡ false → Mem s l → ⊥
is_in_out s l e m = not_both (mem_is_in m) e

pub out_is_in : (s : Bytes) (l : List Bytes) → (Mem s l → ⊥) → is_in s l ≡ false
out_is_in s l h = ⊎_elim (λ e. absurd (h (is_in_mem s l e))) (λ e. e) (which (is_in s l))

-- ---- membership

pub mem_cond : {A : Type 0} (b : Bool) (l : List A) {a : A} → Mem a (cond b [] l) → (b ≡ false) × Mem a l
mem_cond true l m = absurd (not-nil m)
mem_cond false l m = (refl, m)

pub cond_mem : {A : Type 0} {b : Bool} {l : List A} {a : A} → b ≡ false → Mem a l → Mem a (cond b [] l)
cond_mem {A} {b} {l} {a} e m = rw e m

pub map_mem : {A B : Type 0} (f : A → B) (l : List A) {b : B} → Mem b (map f l) → (a : A) × Mem a l × (b ≡ f a)
map_mem f [] m = absurd (not-nil m)
map_mem {A} {B} f (x ∷ l) {b} m = go (cases_cons m) (map_mem f l)
  where
    go : (b ≡ f x) ⊎ Mem b (map f l) → (Mem b (map f l) → (a : A) × Mem a l × (b ≡ f a)) → (a : A) × Mem a (x ∷ l) × (b ≡ f a)
    go (inl e) ih = (x, here refl, e)
    go (inr n) ih = let r = ih n in (r.0, there r.1, r.2)

pub flat_mem : {A B : Type 0} (f : A → List B) (l : List A) {b : B} → Mem b (flat_map f l) → (a : A) × Mem a l × Mem b (f a)
unfolding flat_map
flat_mem f [] m = absurd (not-nil m)
flat_mem {A} {B} f (x ∷ l) {b} m = go (append_cases (f x) m) (flat_mem f l)
  where
    go : Mem b (f x) ⊎ Mem b (flat_map f l) → (Mem b (flat_map f l) → (a : A) × Mem a l × Mem b (f a)) → (a : A) × Mem a (x ∷ l) × Mem b (f a)
    go (inl n) ih = (x, here refl, n)
    go (inr n) ih = let r = ih n in (r.0, there r.1, r.2)

pub mem_flat : {A B : Type 0} (f : A → List B) {a : A} {b : B} {l : List A} → Mem a l → Mem b (f a) → Mem b (flat_map f l)
unfolding flat_map
mem_flat f {a = a} {b = b} (here {x = x} {xs = l} e) n = on-left (flat_map f l) (rw e at n)
mem_flat f {a = a} {b = b} (there {x = x} {xs = l} m) n = on-right (f x) (mem_flat f m n)

-- two functions that agree on a list's members
pub flat_same : {A B : Type 0} (f g : A → List B) (l : List A) → ((a : A) → Mem a l → f a ≡ g a) → flat_map f l ≡ flat_map g l
unfolding flat_map
flat_same f g [] h = refl
flat_same f g (x ∷ l) h = rw (h x (here refl), flat_same f g l (λ a m. h a (there m)))

pub some_mem : {A B : Type 0} (o : Option A) (f : A → List B) {b : B} → Mem b (on_some o [] f) → (a : A) × (o ≡ Some a) × Mem b (f a)
some_mem None f m = absurd (not-nil m)
some_mem (Some a) f m = (a, refl, m)

pub mem_some : {A B : Type 0} {o : Option A} (f : A → List B) {a : A} {b : B} → o ≡ Some a → Mem b (f a) → Mem b (on_some o [] f)
mem_some f e m = rw e m

pub some_of : {A B : Type 0} (o : Option A) (f : A → Option B) {b : B} → on_some o None f ≡ Some b → (a : A) × (o ≡ Some a) × (f a ≡ Some b)
some_of None f e = let z : ◌≡◌ {A = ℕ} 0 1 = cc in absurd (omega arith)
some_of (Some a) f e = (a, refl, e)

-- those that pass a test
pub those_mem : {A : Type 0} (t : A → Bool) (l : List A) {a : A} → Mem a (those t l) → Mem a l × (t a ≡ true)
unfolding those
those_mem t [] m = absurd (not-nil m)
those_mem {A} t (x ∷ l) {a} m = go (t x) refl m (those_mem t l)
  where
    go : (b : Bool) → t x ≡ b → Mem a (cond b (x ∷ those t l) (those t l)) → (Mem a (those t l) → Mem a l × (t a ≡ true)) → Mem a (x ∷ l) × (t a ≡ true)
    go true e n ih = ⊎_elim (λ s. (here s, ap t s ∙ e)) (λ r. (there (ih r).0, (ih r).1)) (cases_cons n)
    go false e n ih = (there (ih n).0, (ih n).1)

pub mem_those : {A : Type 0} (t : A → Bool) (l : List A) {a : A} → Mem a l → t a ≡ true → Mem a (those t l)
unfolding those
mem_those t [] m h = absurd (not-nil m)
mem_those {A} t (x ∷ l) {a} m h = go (t x) refl (cases_cons m) (λ n. mem_those t l n h)
  where
    go : (b : Bool) → t x ≡ b → (a ≡ x) ⊎ Mem a l → (Mem a l → Mem a (those t l)) → Mem a (cond b (x ∷ those t l) (those t l))
    go true e (inl s) ih = here s
    go true e (inr n) ih = there (ih n)
    go false e (inl s) ih = absurd (not_both (sym (ap t s) ∙ h) e)
    go false e (inr n) ih = ih n

-- the first that passes a test
pub first_mem : {A : Type 0} (t : A → Bool) (l : List A) {a : A} → first t l ≡ Some a → Mem a l
unfolding first
first_mem t [] e = let z : ◌≡◌ {A = ℕ} 0 1 = cc in absurd (omega arith)
first_mem {A} t (x ∷ l) {a} e = go (t x) (first_mem t l) e
  where
    go : (b : Bool) → (first t l ≡ Some a → Mem a l) → cond b (Some x) (first t l) ≡ Some a → Mem a (x ∷ l)
    go true ih e = here {x = x} (cc)
    go false ih e = there (ih e)

pub first_passes : {A : Type 0} (t : A → Bool) (l : List A) {a : A} → first t l ≡ Some a → t a ≡ true
unfolding first
first_passes t [] e = let z : ◌≡◌ {A = ℕ} 0 1 = cc in absurd (omega arith)
first_passes {A} t (x ∷ l) {a} e = go (t x) refl (first_passes t l) e
  where
    go : (b : Bool) → t x ≡ b → (first t l ≡ Some a → t a ≡ true) → cond b (Some x) (first t l) ≡ Some a → t a ≡ true
    go true h ih e = let s : x ≡ a = cc in ap t (sym s) ∙ h
    go false h ih e = ih e

-- ---- what is added where it is new

pub add_new_old : (l : List Bytes) (q : Bytes) {r : Bytes} → Mem r l → Mem r (add_new l q)
unfolding add_new
add_new_old l q {r} m = go (is_in q l)
  where
    go : (b : Bool) → Mem r (cond b l (l ++ (q ∷ [])))
    go true = m
    go false = on-left (q ∷ []) m

pub add_new_new : (l : List Bytes) (q : Bytes) → Mem q (add_new l q)
unfolding add_new
add_new_new l q = go (is_in q l) refl
  where
    go : (b : Bool) → is_in q l ≡ b → Mem q (cond b l (l ++ (q ∷ [])))
    go true e = is_in_mem q l e
    go false e = on-right l (here refl)

pub add_new_inv : (l : List Bytes) (q : Bytes) {r : Bytes} → Mem r (add_new l q) → Mem r l ⊎ (r ≡ q)
unfolding add_new
add_new_inv l q {r} = go (is_in q l)
  where
    go : (b : Bool) → Mem r (cond b l (l ++ (q ∷ []))) → Mem r l ⊎ (r ≡ q)
    go true m = inl m
    go false m = ⊎_elim (λ n. inl n) (λ n. inr (eq-single n)) (append_cases l m)

pub add_all_old : (l qs : List Bytes) {r : Bytes} → Mem r l → Mem r (add_all l qs)
unfolding add_all
add_all_old l [] m = m
add_all_old l (q ∷ qs) m = add_all_old (add_new l q) qs (add_new_old l q m)

pub add_all_new : (l : List Bytes) (qs : List Bytes) {r : Bytes} → Mem r qs → Mem r (add_all l qs)
unfolding add_all
add_all_new l [] m = absurd (not-nil m)
add_all_new l (q ∷ qs) {r} m =
    ⊎_elim (λ e. add_all_old (add_new l q) qs (cast e (add_new_new l q))) (λ n. add_all_new (add_new l q) qs n) (cases_cons m)

pub add_all_inv : (l qs : List Bytes) {r : Bytes} → Mem r (add_all l qs) → Mem r l ⊎ Mem r qs
unfolding add_all
add_all_inv l [] m = inl m
add_all_inv l (q ∷ qs) {r} m = go (add_all_inv (add_new l q) qs m)
  where
    go : Mem r (add_new l q) ⊎ Mem r qs → Mem r l ⊎ Mem r (q ∷ qs)
    go (inl n) = ⊎_elim (λ o. inl o) (λ e. inr (here e)) (add_new_inv l q n)
    go (inr n) = inr (there n)

-- one list after the other
pub add_all_append : (l qs rs : List Bytes) → add_all l (qs ++ rs) ≡ add_all (add_all l qs) rs
unfolding add_all
add_all_append l [] rs = refl
add_all_append l (q ∷ qs) rs = add_all_append (add_new l q) qs rs
