-- Laws: the first record of a table that passes a test, looked for from the front. Assumes nothing.
use Rattle.std.specs.Prelude.{ℕ, suc, ◌+◌, ◌≤◌, ◌<◌, ◌≡◌, refl, Bool, true, false, cond, List, [], ◌∷◌, map, get_or, take, drop, Option, Some, None, unwrap_or}
use Rattle.std.specs.List.{position_or_len}
use Rattle.std.proofs.Common.{arith, add-one, sym, ap, ◌∙◌, get_or-take, ltb}
use Rattle.std.proofs.lemmas.Bool.Decides.{nat_tests}
use Rattle.std.proofs.lemmas.List.Recursion.{is_position_or_len}
use Rattle.std.proofs.Math.ListN.{length}
use Rattle.std.proofs.lemmas.List.{length-map}
use Rattle.std.proofs.Math.Seq.{drop-length, length-take-le}
use Rattle.text.specs.Ascii.{Bytes}
use Rattle.text.specs.Compare.{same}
use Rattle.spans.specs.Span.{bytes}
use Rattle.spans.specs.declared.span.Span.{Span}
use Rattle.store.specs.Strings.{string, span_of}
use Rattle.store.specs.First.{first_at, first_here, first_later}
use Rattle.store.specs.declared.stored.Stored.{Stored}

-- it stands among them, or all are passed
pub first_le : {A : Type 0} (t : A → Bool) (l : List A) → first_at t l ≤ length l
unfolding first_at
first_le t [] = omega arith
first_le t (x ∷ l) = go (t x) (first_le t l)
  where
    go : (b : Bool) → first_at t l ≤ length l → cond b 0 (suc (first_at t l)) ≤ suc (length l)
    go true h = omega arith
    go false h = omega arith

-- what `position` found, or how many were looked through
first_is : {A : Type 0} (t : A → Bool) (l : List A) → first_at t l ≡ position_or_len t l
unfolding first_at
first_is t = is_position_or_len (first_at t) t refl (λ x xs. ap (cond (t x) 0) (omega arith))

pub first_found : {A : Type 0} (t : A → Bool) (l : List A) (n : ℕ) (o : Option ℕ) (r : ℕ) → length l ≡ n → o ≡ cond (ltb (position_or_len t l) (length l)) (Some (position_or_len t l)) None → r ≡ unwrap_or o n → r ≡ first_at t l
first_found t l n o r e h k = rw (k, h, ← first_is t l) (go (ltb (first_at t l) (length l)) refl)
  where
    go : (found : Bool) → ltb (first_at t l) (length l) ≡ found → unwrap_or (cond found (Some (first_at t l)) None) n ≡ first_at t l
    go true q = refl
    go false q = grind (arith, nat_tests, first_le t l)

-- records and what they stand for, tests that agree
pub first_map : {A B : Type 0} (f : A → B) (t : B → Bool) (u : A → Bool) → ((x : A) → u x ≡ t (f x)) → (l : List A) → first_at t (map f l) ≡ first_at u l
unfolding first_at
first_map f t u e [] = refl
first_map f t u e (x ∷ l) = rw (e x, first_map f t u e l)

-- of the first n elements i are passed, and none of them passes the test
pub record Looks {A : Type 0} (t : A → Bool) (l : List A) (n i : ℕ) : Type 0 where
  pub before : i ≤ n
  pub rest : first_at t (take n l) ≡ i + first_at t (drop i (take n l))

module _ {A : Type 0} (t : A → Bool) (l : List A) (n : ℕ) where
  pub looks_start : Looks t l n 0
  looks_start = record { before = omega arith; rest = omega arith }

  pub looks_end : (i : ℕ) → Looks t l n i → n ≤ length l → n ≤ i → n ≡ first_at t (take n l)
  unfolding first_at
  looks_end i k q h =
      let e : i ≡ length (take n l) = omega (arith, k.before, length-take-le n l q) in
      let z : first_at t (drop i (take n l)) ≡ 0 = rw (e, drop-length (take n l)) in
      omega (arith, k.before, k.rest, z)

  module _ (i : ℕ) (d : A) (k : Looks t l n i) (q : n ≤ length l) where
    here_long : i < n → i < length (take n l)
    here_long h = omega (arith, length-take-le n l q)

    pub looks_here : i < n → t (get_or l i d) ≡ true → i ≡ first_at t (take n l)
    looks_here h e = omega (arith, k.rest, first_here t (take n l) d i (here_long h) (ap t (get_or-take n l i d h) ∙ e))

    pub looks_on : i < n → t (get_or l i d) ≡ false → Looks t l n (i + 1)
    looks_on h e =
        let g : first_at t (drop i (take n l)) ≡ suc (first_at t (drop (i + 1) (take n l))) = rw (add-one i) (first_later t (take n l) d i (here_long h) (ap t (get_or-take n l i d h) ∙ e)) in
        record { before = omega arith; rest = omega (arith, k.rest, g) }

-- an array is as long as what its elements are stored as
pub array_long : (X Y : Type 0) (f : X → Y) (l : List X) (n : ℕ) → length (map f l) ≡ n → length l ≡ n
array_long X Y f l n e = sym (length-map l f) ∙ e

-- two stored strings compared as spans
pub strings_same : (mem : Bytes) (p q : Stored) (x y : Span) (b r : Bool) → x ≡ span_of p → y ≡ span_of q → b ≡ same (bytes mem x) (bytes mem y) → b ≡ r → same (string mem p) (string mem q) ≡ r
strings_same mem p q x y b r e g h t = ap (λ (u : Span). same (bytes mem u) (string mem q)) (sym e) ∙ ap (λ (u : Span). same (bytes mem x) (bytes mem u)) (sym g) ∙ sym h ∙ t
