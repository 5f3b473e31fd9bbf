-- Which strategies are of a domain: laws as the needs ask them. Assumes nothing.
use Rattle.store.specs.declared.state.Few.{Few}
use Rattle.std.specs.Prelude.{Option, Some, None as Nothing}
use Prim.Native.Nat.{ℕ, ◌+◌, ◌≤◌, ◌<◌}
use native.Mathlib.Omega.{arith}
use native.Mathlib.Numerals.{add-one}
use mathlib.Core.Path.{◌≡◌, refl, sym, ap, ◌∙◌}
use mathlib.Core.Bool.{Bool, true, false, not, ◌&&◌, ◌||◌}
use mathlib.Core.List.{List, ◌∷◌}
use lib.ListN.{length, take, drop, get_or, drop_of_length-le}
use lib.Seq.{drop-cons, get_or-take, length-take-le}
use borrow.Author.Rules.{rules}
use Rattle.text.specs.Ascii.{Bytes}
use Rattle.text.specs.Compare.{same}
use Rattle.text.specs.Scan.{any}
use Rattle.spans.specs.Span.{bytes}
use Rattle.spans.specs.declared.span.Span.{Span}
use Rattle.store.specs.Order.{Sized}
use Rattle.store.specs.Strings.{string, span_of}
use Rattle.store.specs.declared.stored.Stored.{Stored}
use Rattle.store.specs.declared.state.Isolation.{Isolation}
use Rattle.checks.specs.Sorted.{is_own}
use Rattle.checks.specs.Soles.{SoleIs, SoleSeen}
use Rattle.checks.specs.declared.Sole.{Sole}
use Rattle.checks.specs.declared.Sole.TheVariants.{None, One, More}

-- ---- the loop: of the first k at most one is of the domain, and its name is what was found

-- whether a name is the one found
abbrev pub is_found : Bytes → Option Stored → Bytes → Bool
is_found mem Nothing who = false
is_found mem (Some name) who = same (string mem name) who

pub record Passes (mem : Bytes) (t : Few Isolation) (domain : Stored) (one : Option Stored) (k : ℕ) : Type 0 where
  pub left : (who : Bytes) → any (is_own mem who (string mem domain)) (take t.n t.all) ≡ is_found mem one who || any (is_own mem who (string mem domain)) (drop k (take t.n t.all))

pub pass_start : (mem : Bytes) (t : Few Isolation) (domain : Stored) → Passes mem t domain Nothing 0
pass_start mem t domain = record { left = λ who. refl }

-- a strategy of another domain, and one of this
is_other : (mem who : Bytes) (domain : Stored) (x : Isolation) → same (string mem x.domain) (string mem domain) ≡ false → is_own mem who (string mem domain) x ≡ false
unfolding is_own
is_other mem who domain x e = rw e (no (same (string mem x.name) who))
  where
    no : (b : Bool) → b && false ≡ false
    no true = refl
    no false = refl

is_this : (mem who : Bytes) (domain : Stored) (x : Isolation) → same (string mem x.domain) (string mem domain) ≡ true → is_own mem who (string mem domain) x ≡ same (string mem x.name) who
unfolding is_own
is_this mem who domain x e = rw e (yes (same (string mem x.name) who))
  where
    yes : (b : Bool) → b && true ≡ b
    yes true = refl
    yes false = refl

domain_by : (mem : Bytes) (a domain : Stored) (u v : Span) (b : Bool) → b ≡ same (bytes mem u) (bytes mem v) → u ≡ span_of a → v ≡ span_of domain → same (string mem a) (string mem domain) ≡ b
domain_by mem a domain u v b e eu ev = rw (← eu, ← ev) (sym e)

module _ (mem : Bytes) (t : Few Isolation) (domain : Stored) (s : Sized 32 t.n t.all) where
  long : t.n ≤ length t.all
  long = omega (arith, s.long, s.count)

  pub pass_in : (k : ℕ) → k < t.n → k < 32
  pass_in k h = omega (arith, s.count)

  module _ (one : Option Stored) (k : ℕ) (inv : Passes mem t domain one k) where
    at_end_lem : t.n ≤ k → (who : Bytes) → any (is_own mem who (string mem domain)) (take t.n t.all) ≡ is_found mem one who
    unfolding any
    at_end_lem h who = inv.left who ∙ rw (drop_of_length-le (take t.n t.all) {i = k} (rw (length-take-le t.n t.all long) h)) (or_none_lem (is_found mem one who))
      where
        or_none_lem : (b : Bool) → b || false ≡ b
        or_none_lem true = refl
        or_none_lem false = refl

    pub pass_none : t.n ≤ k → one ≡ Nothing → SoleSeen mem t domain None
    pass_none h f = record { is = λ who. at_end_lem h who ∙ rw f }

    pub pass_one : t.n ≤ k → (name : Stored) → one ≡ Some name → SoleSeen mem t domain (One name)
    pass_one h name f = record { is = λ who. at_end_lem h who ∙ rw f }

    module _ (h : k < t.n) (d : Isolation) (u v : Span) (eu : u ≡ span_of (get_or t.all k d).domain) (ev : v ≡ span_of domain) (b : Bool) (e : b ≡ same (bytes mem u) (bytes mem v)) where
      opened : (who : Bytes) → any (is_own mem who (string mem domain)) (take t.n t.all) ≡ is_found mem one who || (is_own mem who (string mem domain) (get_or t.all k d) || any (is_own mem who (string mem domain)) (drop (k + 1) (take t.n t.all)))
      unfolding any
      opened who =
          let l : k < length (take t.n t.all) = rw (length-take-le t.n t.all long) h in
          let y : drop k (take t.n t.all) ≡ get_or t.all k d ∷ drop (k + 1) (take t.n t.all) = drop-cons (take t.n t.all) k d l ∙ rw (get_or-take t.n t.all k d h, ← add-one k) in
          inv.left who ∙ ap (λ (z : List Isolation). is_found mem one who || any (is_own mem who (string mem domain)) z) y

      by : same (string mem (get_or t.all k d).domain) (string mem domain) ≡ b
      by = domain_by mem (get_or t.all k d).domain domain u v b e eu ev

      pub pass_other : not b ≡ true → Passes mem t domain one (k + 1)
      pass_other g = record { left = λ who. opened who ∙ rw (is_other mem who domain (get_or t.all k d) (by ∙ is_false b g)) }
        where
          is_false : (b : Bool) → not b ≡ true → b ≡ false
          is_false true e = sym e
          is_false false e = refl

      pub pass_first : not b ≡ false → one ≡ Nothing → Passes mem t domain (Some (get_or t.all k d).name) (k + 1)
      pass_first g f = record { left = λ who. opened who ∙ rw (f, is_this mem who domain (get_or t.all k d) (by ∙ is_true b g)) }
        where
          is_true : (b : Bool) → not b ≡ false → b ≡ true
          is_true true e = refl
          is_true false e = sym e

  pub pass_more : SoleSeen mem t domain More
  pass_more = record { is = tt }

pub ruleset passes = (rules, pass_start, pass_in, pass_none, pass_one, pass_other, pass_first, pass_more)

-- ---- what it tells of a strategy's name

module _ (mem : Bytes) (t : Few Isolation) (domain : Stored) (own : Sole) (w : SoleSeen mem t domain own) where
  pub seen_as : (own' : Sole) → own ≡ own' → SoleSeen mem t domain own'
  seen_as own' g = rw g at w

  pub told_none : (name : Stored) → own ≡ None → false ≡ any (is_own mem (string mem name) (string mem domain)) (take t.n t.all)
  told_none name g =
      let f : SoleIs mem t domain None = rw g at w.is in
      sym (f (string mem name))

  pub told_one : (name o : Stored) → own ≡ One o → (u v : Span) → u ≡ span_of o → v ≡ span_of name → (b : Bool) → b ≡ same (bytes mem u) (bytes mem v) → b ≡ any (is_own mem (string mem name) (string mem domain)) (take t.n t.all)
  told_one name o g u v eu ev b e =
      let f : SoleIs mem t domain (One o) = rw g at w.is in
      e ∙ rw (eu, ev) (sym (f (string mem name)))
