-- Whether a strategy is of a domain: laws as the needs ask them. Assumes nothing.
use Rattle.store.specs.declared.state.Few.{Few}
use Prim.Native.Nat.{ℕ, ◌+◌, ◌≤◌, ◌<◌}
use native.Mathlib.Omega.{arith}
use native.Mathlib.Numerals.{add-one}
use mathlib.Core.Path.{◌≡◌, refl, sym, ap, ◌∙◌}
use mathlib.Core.Bool.{Bool, true, false, not, ◌||◌}
use mathlib.Core.List.{◌∷◌}
use lib.ListN.{length, take, drop, get_or, drop_of_length-le}
use lib.Seq.{drop-cons, get_or-take, length-take-le}
use borrow.Author.Rules.{rules}
use Rattle.text.specs.Ascii.{Bytes}
use Rattle.text.specs.Compare.{same}
use Rattle.text.specs.Scan.{any}
use Rattle.spans.specs.Span.{bytes}
use Rattle.spans.specs.declared.span.Span.{Span}
use Rattle.store.specs.Order.{Sized}
use Rattle.store.specs.Strings.{string, span_of}
use Rattle.store.specs.declared.stored.Stored.{Stored}
use Rattle.store.specs.declared.state.Isolation.{Isolation}
use Rattle.checks.specs.Sorted.{is_own}

-- ---- one strategy

module _ (mem : Bytes) (x : Isolation) (name domain : Stored) (p q : Span) (b : Bool) (e : b ≡ same (bytes mem p) (bytes mem q)) (ep : p ≡ span_of x.name) (eq : q ≡ span_of name) where
  names_same : same (string mem x.name) (string mem name) ≡ b
  names_same = rw (← ep, ← eq) (sym e)

  pub not_own : not b ≡ true → false ≡ is_own mem (string mem name) (string mem domain) x
  unfolding is_own
  not_own h = rw (names_same ∙ is_false b h)
    where
      is_false : (b : Bool) → not b ≡ true → b ≡ false
      is_false true e = sym e
      is_false false e = refl

  pub own_by : not b ≡ false → (u v : Span) (r : Bool) → r ≡ same (bytes mem u) (bytes mem v) → u ≡ span_of x.domain → v ≡ span_of domain → r ≡ is_own mem (string mem name) (string mem domain) x
  unfolding is_own
  own_by h u v r f eu ev = rw (names_same ∙ is_true b h) (f ∙ rw (eu, ev))
    where
      is_true : (b : Bool) → not b ≡ false → b ≡ true
      is_true true e = refl
      is_true false e = sym e

pub ruleset owns = (rules, not_own, own_by)

-- ---- one of a table: none of the first k is it

pub record Seeks (mem : Bytes) (t : Few Isolation) (name domain : Stored) (k : ℕ) : Type 0 where
  pub left : any (is_own mem (string mem name) (string mem domain)) (take t.n t.all) ≡ any (is_own mem (string mem name) (string mem domain)) (drop k (take t.n t.all))

module _ (mem : Bytes) (t : Few Isolation) (name domain : Stored) (s : Sized 32 t.n t.all) where
  long : t.n ≤ length t.all
  long = omega (arith, s.long, s.count)

  pub index_in : (k : ℕ) → k < t.n → k < 32
  index_in k h = omega (arith, s.count)

  module _ (k : ℕ) (inv : Seeks mem t name domain k) where
    pub seek_end : t.n ≤ k → false ≡ any (is_own mem (string mem name) (string mem domain)) (take t.n t.all)
    unfolding any
    seek_end h = sym (inv.left ∙ rw (drop_of_length-le (take t.n t.all) {i = k} (rw (length-take-le t.n t.all long) h)))

    module _ (h : k < t.n) (d : Isolation) (b : Bool) (e : b ≡ is_own mem (string mem name) (string mem domain) (get_or t.all k d)) where
      opened : any (is_own mem (string mem name) (string mem domain)) (take t.n t.all) ≡ b || any (is_own mem (string mem name) (string mem domain)) (drop (k + 1) (take t.n t.all))
      unfolding any
      opened =
          let l : k < length (take t.n t.all) = rw (length-take-le t.n t.all long) h in
          let y : drop k (take t.n t.all) ≡ get_or t.all k d ∷ drop (k + 1) (take t.n t.all) = drop-cons (take t.n t.all) k d l ∙ rw (get_or-take t.n t.all k d h, ← add-one k) in
          inv.left ∙ ap (any (is_own mem (string mem name) (string mem domain))) y ∙ ap (λ (c : Bool). c || any (is_own mem (string mem name) (string mem domain)) (drop (k + 1) (take t.n t.all))) (sym e)

      pub seek_here : b ≡ true → true ≡ any (is_own mem (string mem name) (string mem domain)) (take t.n t.all)
      seek_here g = sym (opened ∙ rw g)

      pub seek_on : b ≡ false → Seeks mem t name domain (k + 1)
      seek_on g = record { left = opened ∙ rw g }

pub ruleset seeks = (rules, index_in, seek_end, seek_here, seek_on)
