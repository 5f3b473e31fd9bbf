-- What `Iterator::eq` and `Iterator::lt` say of two streams of bytes, in the words of specs/Compare.antt. Assumes nothing.
use Rattle.std.specs.Prelude.{◌≡◌, refl, Bool, true, false, cond, List, [], ◌∷◌, ◌++◌, ℕ, Option, Some, None, IfSome, MatchOption, unwrap_or, nat_eq}
use Rattle.std.proofs.Common.{sym, ap, subst, ◌∙◌, arith, eqb, ltb, eqb-true, Ordering, Less, Equal, Greater, Iter}
use Rattle.std.specs.Iterator.{AlwaysYields, YieldsThen, YieldsFirst, ComparesItemsByEq}
use Rattle.std.specs.Iterator.Order.{TestsOrderOfItems}
use Rattle.std.specs.Ordering.{is_lt, is_some_and, nat_cmp}
use Rattle.std.specs.Iterator.Adapters.{copied_source, copied_steps}
use Rattle.std.specs.Slice.Iter.{iter_rest}
use Rattle.std.specs.declared.iter.Copied.{Copied}
use Rattle.std.specs.List.{AllZip}
use Rattle.std.proofs.lemmas.Fn.{fronts}
use Rattle.std.proofs.lemmas.Bool.Decides.{nat_tests}
use Rattle.std.proofs.lemmas.Cmp.{ranked}
use Rattle.std.proofs.lemmas.Iterator.{YieldsList, YieldsList-from_slice}
use Rattle.std.proofs.lemmas.Iterator.Consumers.{YieldsList-from_first, YieldsList-from_copied}
use Rattle.text.specs.Compare.{same, less}
use Rattle.text.specs.Sames.{same_of, same_front, less_front}

-- what is left at an answer of `next`
abbrev Begins : Option ℕ → List ℕ → Type 0
Begins None zs = zs ≡ []
Begins (Some x) zs = (more : List ℕ) × (zs ≡ x ∷ more)

module _ {S : Type 0} (steps : S → Option ℕ → S → Type 0) where
  begins : (o : Option ℕ) (zs : List ℕ) (s u : S) → AlwaysYields steps (λ x. x) s zs → steps s o u → Begins o zs
  begins None [] s u g p = refl
  begins None (z ∷ zs) s u g p = absurd (g.0 u p)
  begins (Some x) [] s u g p = absurd (g x u p)
  begins (Some x) (z ∷ zs) s u g p = (zs, ap (λ y. y ∷ zs) (sym (g.1 x u p).0))

  -- calls of `next` gave xs, and then o
  parted : (xs : List ℕ) (o : Option ℕ) (zs : List ℕ) (s u : S) → AlwaysYields steps (λ x. x) s zs → YieldsThen steps s xs o u → (more : List ℕ) × (zs ≡ xs ++ more) × Begins o more
  parted [] o zs s u g y = (zs, refl, begins o zs y.0 u (subst (λ t. AlwaysYields steps (λ x. x) t zs) y.1 g) y.2)
  parted (x ∷ xs) o [] s u g y = absurd (g x y.1.0 y.1.1)
  parted (x ∷ xs) o (z ∷ zs) s u g y =
      let next = g.1 x y.1.0 y.1.1 in
      let later = parted xs o zs y.1.0 u next.1 (y.0, y.1.2, y.2) in
      (later.0, ap (λ w. w ∷ zs) (sym next.0) ∙ ap (λ l. x ∷ l) later.1, later.2)

module _ (eq : ℕ → ℕ → Type 0) (tied : (x y : ℕ) → eq x y → x ≡ y) where
  one_list : (xs ys : List ℕ) → AllZip eq xs ys → xs ≡ ys
  one_list [] [] h = refl
  one_list [] (y ∷ ys) h = absurd h
  one_list (x ∷ xs) [] h = absurd h
  one_list (x ∷ xs) (y ∷ ys) h = rw (tied x y h.0, one_list xs ys h.1)

same_after : (r : Bool) (o p : Option ℕ) (xs ys : List ℕ) → Begins o xs → Begins p ys → MatchOption o (MatchOption p (r ≡ true) (λ _. r ≡ false)) (λ x. (r ≡ false) × IfSome p (λ y. nat_eq x y ≡ false)) → r ≡ same xs ys
unfolding same
same_after r None None xs ys a b h = rw (h, a, b)
same_after r None (Some y) xs ys a b h = rw (h, a, b.1)
same_after r (Some x) None xs ys a b h = rw (h.0, a.1, b)
same_after r (Some x) (Some y) xs ys a b h = rw (h.0, a.1, b.1, h.1)

less_here : (x y : ℕ) (m n : List ℕ) → ¬ (Some (nat_cmp x y) ≡ Some Equal) → is_lt (nat_cmp x y) ≡ less (x ∷ m) (y ∷ n)
unfolding less
less_here x y m n h = go (ltb x y) (eqb x y) refl refl h
  where
    go : (l e : Bool) → ltb x y ≡ l → eqb x y ≡ e → ¬ (Some (cond l Less (cond e Equal Greater)) ≡ Some Equal) → is_lt (cond l Less (cond e Equal Greater)) ≡ cond e (less m n) l
    go true true f g h = grind (arith, nat_tests)
    go true false f g h = refl
    go false true f g h = absurd (h refl)
    go false false f g h = refl

less_after : (q : Option Ordering) (o p : Option ℕ) (xs ys : List ℕ) → Begins o xs → Begins p ys
    → MatchOption o (MatchOption p (q ≡ Some Equal) (λ _. q ≡ Some Less)) (λ x. MatchOption p (q ≡ Some Greater) (λ y. (q ≡ Some (nat_cmp x y)) × ¬ (q ≡ Some Equal))) → is_some_and is_lt q ≡ less xs ys
unfolding less
less_after q None None xs ys a b h = rw (h, a, b)
less_after q None (Some y) xs ys a b h = rw (h, a, b.1)
less_after q (Some x) None xs ys a b h = rw (h, a.1, b)
less_after q (Some x) (Some y) xs ys a b h = rw (h.0, a.1, b.1) (less_here x y a.0 b.0 (λ e. h.1 (h.0 ∙ e)))

less_tied : (x y : ℕ) → Some (nat_cmp x y) ≡ Some Equal → x ≡ y
less_tied x y e = ranked x y Equal (sym (ap (λ o. unwrap_or o Less) e))

module _ (xs ys ps qs m n : List ℕ) (a : xs ≡ ps ++ m) (b : ys ≡ qs ++ n) (e : ps ≡ qs) where
  same_behind : same m n ≡ same xs ys
  same_behind = rw (a, b) (sym (same_front ps qs m n (same_of ps qs e)))

  less_behind : less m n ≡ less xs ys
  less_behind = rw (a, b) (sym (less_front ps qs m n (same_of ps qs e)))

-- two iterators, of which the first gives xs, and what the second becomes gives ys
module _ {S T U : Type 0} {steps : S → Option ℕ → S → Type 0} {others : T → Option ℕ → T → Type 0} {s : S} {xs ys : List ℕ} (becomes : U → T → Type 0) (other : U) (r : Bool) where
  pub same_from_yields_List : ComparesItemsByEq steps becomes others s other nat_eq r → YieldsList steps (λ x. x) s xs → ((t : T) → becomes other t → YieldsList others (λ x. x) t ys) → r ≡ same xs ys
  same_from_yields_List (it, ps, qs, o, p, u, v, b, first, second, tied, last) e f =
      let a = parted steps ps o xs s u e.runs first in
      let c = parted others qs p ys it v (f it b).runs second in
      same_after r o p a.0 c.0 a.2 c.2 last ∙ same_behind xs ys ps qs a.0 c.0 a.1 c.1 (one_list _ (λ x y. eqb-true x y) ps qs tied)

  pub less_from_yields_List : TestsOrderOfItems steps becomes others s other (λ x y. Some (nat_cmp x y)) is_lt r → YieldsList steps (λ x. x) s xs → ((t : T) → becomes other t → YieldsList others (λ x. x) t ys) → r ≡ less xs ys
  less_from_yields_List (q, (it, ps, qs, o, p, u, v, b, first, second, tied, last), is) e f =
      let a = parted steps ps o xs s u e.runs first in
      let c = parted others qs p ys it v (f it b).runs second in
      is ∙ less_after q o p a.0 c.0 a.2 c.2 last ∙ less_behind xs ys ps qs a.0 c.0 a.1 c.1 (one_list _ less_tied ps qs tied)

-- two iterators whose `next_gives` is `YieldsFirst left`
module _ {S T : Type 0} (left : S → List ℕ) (left_other : T → List ℕ) (s : S) (other : T) (r : Bool) where
  pub streams_same : ComparesItemsByEq (YieldsFirst left) (λ x t. t ≡ x) (YieldsFirst left_other) s other nat_eq r → r ≡ same (left s) (left_other other)
  streams_same h = same_from_yields_List (λ x t. t ≡ x) other r h (YieldsList-from_first (λ x. x) left (left s) refl) (λ t e. YieldsList-from_first (λ x. x) left_other (left_other other) (ap left_other e))

  pub streams_less : TestsOrderOfItems (YieldsFirst left) (λ x t. t ≡ x) (YieldsFirst left_other) s other (λ x y. Some (nat_cmp x y)) is_lt r → r ≡ less (left s) (left_other other)
  streams_less h = less_from_yields_List (λ x t. t ≡ x) other r h (YieldsList-from_first (λ x. x) left (left s) refl) (λ t e. YieldsList-from_first (λ x. x) left_other (left_other other) (ap left_other e))

-- one such iterator beside a slice, as `a.eq(w.iter().copied())`
module _ {S : Type 0} (left : S → List ℕ) (s : S) (w : List ℕ) (it : Iter ℕ) (other : Copied (Iter ℕ)) (r : Bool) (source : copied_source other ≡ it) (rest : iter_rest it ≡ w) where
  abbrev CopiesSlice : Copied (Iter ℕ) → Option ℕ → Copied (Iter ℕ) → Type 0
  CopiesSlice = copied_steps fronts

  gives_slice : (t : Copied (Iter ℕ)) → t ≡ other → YieldsList CopiesSlice (λ x. x) t w
  gives_slice t e = YieldsList-from_copied (YieldsList-from_slice w (ap (λ u. iter_rest (copied_source u)) e ∙ ap iter_rest source ∙ rest))

  pub stream_same_slice : ComparesItemsByEq (YieldsFirst left) (λ x t. t ≡ x) CopiesSlice s other nat_eq r → r ≡ same (left s) w
  stream_same_slice h = same_from_yields_List (λ x t. t ≡ x) other r h (YieldsList-from_first (λ x. x) left (left s) refl) gives_slice

  pub stream_less_slice : TestsOrderOfItems (YieldsFirst left) (λ x t. t ≡ x) CopiesSlice s other (λ x y. Some (nat_cmp x y)) is_lt r → r ≡ less (left s) w
  stream_less_slice h = less_from_yields_List (λ x t. t ≡ x) other r h (YieldsList-from_first (λ x. x) left (left s) refl) gives_slice
