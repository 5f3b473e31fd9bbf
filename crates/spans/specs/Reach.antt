-- How far strings reach: a measure of a span that says where it ends, and that it does not cross from the files to the area. Assumes nothing.
use Rattle.std.specs.Prelude.{ℕ, zero, suc, ◌+◌, ◌≤◌, ◌<◌, ◌^◌, max, ◌≡◌, refl, Bool, true, false, cond, ◌||◌, List, [], ◌∷◌, ◌++◌, leb}
use Rattle.std.proofs.Common.{arith, le-leb, leb-true}
use Rattle.spans.specs.Span.{◌⋯◌, pair_at, pairs}
use Rattle.spans.specs.Frame.{last_end}
use Rattle.spans.specs.declared.span.Span.{Span}

-- where a span ends
abbrev pub span_end : Span → ℕ
span_end s = s.at + s.len

-- the greatest of the spans by a measure
unfoldable pub last_of : (Span → ℕ) → List Span → ℕ
last_of e [] = 0
last_of e (s ∷ ss) = max (e s) (last_of e ss)

-- where a span ends; more than any memory has where it begins in the files, which are `long`, and ends behind them
unfoldable pub reach : ℕ → Span → ℕ
reach long s = s.at + s.len + cond (leb (s.at + s.len) long || leb long s.at) 0 (2 ^ 32)

-- a string that lies in the files, or in the area
pub data Held (long : ℕ) (s : Span) : Type 0 where
  filed : s.at + s.len ≤ long → Held long s
  stored : long ≤ s.at → Held long s

pub reach_held : (long : ℕ) (s : Span) → Held long s → reach long s ≡ s.at + s.len
unfolding reach
reach_held long s (filed h) = rw (le-leb (s.at + s.len) long h) (omega arith)
reach_held long s (stored h) = go (leb (s.at + s.len) long)
  where
    go : (b : Bool) → s.at + s.len + cond (b || leb long s.at) 0 (2 ^ 32) ≡ s.at + s.len
    go true = omega arith
    go false = rw (le-leb long s.at h) (omega arith)

pub reach_end : (long : ℕ) (s : Span) → s.at + s.len ≤ reach long s
unfolding reach
reach_end long s = omega arith

-- what reaches less far is whole
pub held_by : (long n : ℕ) (s : Span) → n < 2 ^ 32 → reach long s ≤ n → Held long s
unfolding reach
held_by long n s small h = go (leb (s.at + s.len) long) refl (leb long s.at) refl
  where
    go : (a : Bool) → leb (s.at + s.len) long ≡ a → (b : Bool) → leb long s.at ≡ b → Held long s
    go true p b q = filed (leb-true (s.at + s.len) long p)
    go false p true q = stored (leb-true long s.at q)
    go false p false q = absurd (omega (arith, rw (p, q) at h))

-- ---- several spans

pub last_end_lem : (long : ℕ) (ss : List Span) → last_end ss ≤ last_of (reach long) ss
unfolding last_end last_of
last_end_lem long [] = omega arith
last_end_lem long (s ∷ ss) = omega (arith, reach_end long s, last_end_lem long ss)

pub last_push : (e : Span → ℕ) (ss : List Span) (s : Span) → last_of e (ss ++ (s ∷ [])) ≡ max (last_of e ss) (e s)
unfolding last_of
last_push e [] s = omega arith
last_push e (u ∷ ss) s = rw (last_push e ss s) (omega arith)

of_last : (e : Span → ℕ) (words : List ℕ) (k n i : ℕ) → i < n → e (pair_at words (k + i)) ≤ last_of e (pairs words k n)
unfolding pairs last_of
of_last e words k zero i h = absurd (omega arith)
of_last e words k (suc n) zero h = let q : k + 0 ≡ k = omega arith in rw q (omega arith)
of_last e words k (suc n) (suc i) h =
    let q : k + suc i ≡ k + 1 + i = omega arith in
    let g : e (pair_at words (k + 1 + i)) ≤ last_of e (pairs words (k + 1) n) = of_last e words (k + 1) n i (omega arith) in
    rw q (omega arith)

-- of n stored spans each is at most the last
pub one_of : (e : Span → ℕ) (words : List ℕ) (n i : ℕ) → i < n → e (pair_at words i) ≤ last_of e (pairs words 0 n)
one_of e words n i h = let q : 0 + i ≡ i = omega arith in rw q at (of_last e words 0 n i h)

pub none_reach : (long : ℕ) → reach long (0 ⋯ 0) ≡ 0
none_reach long = reach_held long (0 ⋯ 0) (filed (omega arith))
