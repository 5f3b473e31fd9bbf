-- Laws: a test of all members of a list; texts for each of them.
-- Assumes nothing.
use Rattle.std.specs.Prelude.{◌≡◌, Bool, cond}
use Rattle.std.proofs.Math.Path.{refl, ap}
use Rattle.std.proofs.Common.{◌∙◌}
use Rattle.std.proofs.Math.Logic.{⊎_elim}
use Rattle.std.proofs.Math.Bool.{true, false}
use mathlib.Core.List.{List, [], ◌∷◌, ◌++◌, map, append_assoc, append-nil}
use mathlib.Core.List.Memᴰ.{cases_cons}
use mathlib.Core.List.Memᴰ.{cast}
use mathlib.Core.List.Memᴰ.{head as here}
use mathlib.Core.List.Memᴰ.{not-nil}
use mathlib.Core.List.Memᴰ.{tail as there}
use mathlib.Core.List.{Memᴰ as Mem}
use Rattle.text.specs.Ascii.{Bytes}
use Rattle.text.specs.Scan.{all}
use Rattle.text.specs.Sames.{both}
use Rattle.out.specs.Items.{each}
use Rattle.design.specs.Lists.{those}
use Rattle.design.specs.Laws.{map_mem}
use Rattle.walk.specs.Reach.{Distinct}
use Rattle.texts.specs.Texts.{warning_line}

module _ {A : Type 0} (t : A → Bool) where
  pub all_append : (xs ys : List A) → all t xs ≡ true → all t ys ≡ true → all t (xs ++ ys) ≡ true
  unfolding all
  all_append [] ys h g = g
  all_append (x ∷ xs) ys h g =
      let b = both (t x) (all t xs) h in
      rw b.0 (all_append xs ys b.1 g)

  -- one of them
  pub all_at : (xs : List A) {x : A} → all t xs ≡ true → Mem x xs → t x ≡ true
  unfolding all
  all_at [] h m = absurd (not-nil m)
  all_at (y ∷ xs) h m =
      let b = both (t y) (all t xs) h in
      ⊎_elim (λ e. ap t e ∙ b.0) (λ n. all_at xs b.1 n) (cases_cons m)

  pub all_of : (xs : List A) → ((x : A) → Mem x xs → t x ≡ true) → all t xs ≡ true
  unfolding all
  all_of [] h = refl
  all_of (x ∷ xs) h = rw (h x (here refl)) (all_of xs (λ y m. h y (there m)))

  -- those that pass another test
  pub all_those : (u : A → Bool) (xs : List A) → all t xs ≡ true → all t (those u xs) ≡ true
  unfolding all those
  all_those u [] h = refl
  all_those u (x ∷ xs) h =
      let b = both (t x) (all t xs) h in
      go (u x) b.0 (all_those u xs b.1)
    where
      go : (b : Bool) → t x ≡ true → all t (those u xs) ≡ true → all t (cond b (x ∷ those u xs) (those u xs)) ≡ true
      go true e g = rw e g
      go false e g = g

  -- a weaker test
  pub all_weaker : (u : A → Bool) → ((x : A) → t x ≡ true → u x ≡ true) → (xs : List A) → all t xs ≡ true → all u xs ≡ true
  unfolding all
  all_weaker u w [] h = refl
  all_weaker u w (x ∷ xs) h =
      let b = both (t x) (all t xs) h in
      rw (w x b.0) (all_weaker u w xs b.1)

-- ---- texts for each of a list

pub each_append : {A : Type 0} (f : A → Bytes) (xs ys : List A) → each f (xs ++ ys) ≡ each f xs ++ each f ys
unfolding each
each_append f [] ys = refl
each_append f (x ∷ xs) ys = rw (each_append f xs ys, append_assoc (f x) (each f xs) (each f ys))

pub one_warning : (w : Bytes) → each warning_line (w ∷ []) ≡ warning_line w
unfolding each
one_warning w = append-nil (warning_line w)

-- one of them, wherever it stands
pub each_at : {A : Type 0} (f : A → Bytes) (x : Bytes) (l front : List A) (d : A) (back : List A) → l ≡ front ++ d ∷ back → x ++ each f l ≡ (x ++ each f front) ++ (f d ++ each f back)
unfolding each
each_at f x l front d back e = rw (e, each_append f front (d ∷ back), append_assoc x (each f front) (f d ++ each f back))

-- different members become different ones
pub map_distinct : (f : Bytes → Bytes) → ((p q : Bytes) → f p ≡ f q → p ≡ q) → (l : List Bytes) → Distinct l → Distinct (map f l)
map_distinct f inj [] h = tt
map_distinct f inj (x ∷ l) h = (λ m. let r = map_mem f l m in h.0 (cast (inj x r.0 r.2) r.1), map_distinct f inj l h.1)
