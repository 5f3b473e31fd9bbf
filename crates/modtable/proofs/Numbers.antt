-- Numbers stored and read again. Assumes nothing.
use Prim.Native.Nat.{ℕ, ◌+◌, ◌≤◌, ◌<◌, ◌^◌}
use mathlib.Core.Path.{◌≡◌, refl, sym, ap, ap₂, ◌∙◌}
use mathlib.Core.Bool.{Bool, true, false}
use mathlib.Core.List.{List}
use native.Mathlib.Omega.{arith}
use lib.Dec.{ltb}
use lib.ListN.{length, take, drop, set, get_or, length-set, length-drop, drop_of_length-le}
use lib.Seq.{get_or-take, get_or-set_same, get_or-set_other, take-set-le, take_all}
use borrow.Author.Rules.{rules}
use borrow.Author.Tests.{lt-ltb, le-ltb, ltb-false}
use Rattle.text.specs.Ascii.{Bytes}
use Rattle.jobindex.specs.Index.{num, bytes_at}
use Rattle.jobindex.specs.declared.Span.{Span}
use Rattle.lines.specs.Cursors.{spanned}
use Rattle.modtable.specs.Table.{low_of, part_put, part_at}

-- ---- in 32 bits

pub low_small : (x : ℕ) → x < 4294967295 → low_of x ≡ x
low_small x h = rw (lt-ltb x 4294967295 h)

pub low_below : (x : ℕ) → x < 4294967295 → x ≡ low_of x
low_below x h = sym (low_small x h)

pub low_past : (x : ℕ) → 4294967295 ≤ x → 4294967295 ≡ low_of x
low_past x h = sym (rw (le-ltb x 4294967295 h))

pub ruleset lows = (rules, low_below, low_past)

-- a part of a job that is not longer than that is the same part
pub low_part : (job : Bytes) (s : Span) → length job < 2 ^ 32 → bytes_at job (low_of s.at) (low_of s.len) ≡ spanned job s
low_part job s h = go (ltb s.at 4294967295) refl ∙ len (ltb s.len 4294967295) refl
  where
    go : (b : Bool) → ltb s.at 4294967295 ≡ b → bytes_at job (low_of s.at) (low_of s.len) ≡ bytes_at job s.at (low_of s.len)
    go true e = rw e
    go false e =
        let l : 4294967295 ≤ s.at = ltb-false s.at 4294967295 e in
        ap (take (low_of s.len)) (rw e (drop_of_length-le job {i = 4294967295} (omega arith)) ∙ sym (drop_of_length-le job {i = s.at} (omega arith)))

    len : (b : Bool) → ltb s.len 4294967295 ≡ b → bytes_at job s.at (low_of s.len) ≡ spanned job s
    len true e = rw e
    len false e =
        let l : 4294967295 ≤ s.len = ltb-false s.len 4294967295 e in
        rw e (take_all 4294967295 (drop s.at job) (omega (arith, length-drop s.at job))) ∙ sym (take_all s.len (drop s.at job) (omega (arith, length-drop s.at job)))

-- ---- read again

pub num_front : (n : ℕ) (t t' : List ℕ) → take n t' ≡ take n t → (i : ℕ) → i < n → num t' i ≡ num t i
num_front n t t' e i h = sym (get_or-take n t' i 0 h) ∙ ap (λ (l : List ℕ). get_or l i 0) e ∙ get_or-take n t i 0 h

module _ (t : List ℕ) (p : ℕ) (s : Span) (h : p + 1 < length t) where
  pub put_at : num (part_put t p s) p ≡ low_of s.at
  put_at = get_or-set_other (set t p (low_of s.at)) (p + 1) p (low_of s.len) 0 (λ e. omega (arith, e)) ∙ get_or-set_same t p (low_of s.at) 0 (omega arith)

  pub put_len : num (part_put t p s) (p + 1) ≡ low_of s.len
  put_len = get_or-set_same (set t p (low_of s.at)) (p + 1) (low_of s.len) 0 (omega (arith, length-set t p (low_of s.at)))

  pub put_part : (job : Bytes) → length job < 2 ^ 32 → part_at job (part_put t p s) p ≡ spanned job s
  put_part job l = ap₂ (bytes_at job) put_at put_len ∙ low_part job s l

pub put_other : (t : List ℕ) (p : ℕ) (s : Span) (q : ℕ) → (q ≡ p → ⊥) → (q ≡ p + 1 → ⊥) → num (part_put t p s) q ≡ num t q
put_other t p s q a b = get_or-set_other (set t p (low_of s.at)) (p + 1) q (low_of s.len) 0 b ∙ get_or-set_other t p q (low_of s.at) 0 a

pub put_front : (n : ℕ) (t : List ℕ) (p : ℕ) (s : Span) → n ≤ p → take n (part_put t p s) ≡ take n t
put_front n t p s h = take-set-le n (set t p (low_of s.at)) (p + 1) (low_of s.len) (omega arith) ∙ take-set-le n t p (low_of s.at) h

pub put_long : (t : List ℕ) (p : ℕ) (s : Span) → length (part_put t p s) ≡ length t
put_long t p s = length-set (set t p (low_of s.at)) (p + 1) (low_of s.len) ∙ length-set t p (low_of s.at)

pub part_stored : (t : List ℕ) (p : ℕ) (s : Span) (x y : ℕ) → x ≡ low_of s.at → y ≡ low_of s.len → set (set t p x) (p + 1) y ≡ part_put t p s
part_stored t p s x y ex ey = rw (ex, ey)

pub ruleset stores = (rules, part_stored)
