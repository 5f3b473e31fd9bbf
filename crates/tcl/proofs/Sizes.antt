-- How many bytes a word has, by its first byte: laws as the needs ask them. Assumes nothing.
use Prim.Native.Nat.{◌+◌, ◌<◌, ◌≤◌, ℕ}
use mathlib.Core.Path.{◌∙◌, ◌≡◌, ap, refl}
use mathlib.Core.List.{List}
use mathlib.Core.Bool.{Bool, ◌&&◌, cond, false, true}
use native.Mathlib.Omega.{arith}
use lib.ListN.{get_or-eq_default, drop, get_or, length, length-drop, length-take, take}
use lib.Seq.{length-take-le}
use lib.Dec.{eqb, leb}
use borrow.Author.Tests.{eqb-true, leb-false, leb-true, ne_eqb}
use borrow.Author.Rules.{rules}
use native.Mathlib.Nat.{add-zero}
use lib.Seq.{get_or-drop}
use Rattle.tcl.specs.Join.{joint_by, joint}
use Rattle.tcl.specs.Words.{depth, inside, kind_of, quote_size, quote_state, size_of}
use Rattle.text.specs.Scan.{before, Ends}
use Rattle.tcl.specs.Machines.{span_le, word_kind}
use Rattle.text.specs.Classes.{ends_plain}
use Rattle.text.specs.Ascii.{byte}
use Rattle.text.specs.Scans.{before_le, before_end}

module _ (s p : List ℕ) (at : ℕ) (e : ends_plain (get_or s at 0) ≡ false) where
  pub size_brace : p ≡ take (inside (byte "{") (byte "}") (drop (at + 1) s)) (drop (at + 1) s) → get_or s at 0 ≡ byte "{" → length p + 2 ≡ 1 + size_of (kind_of false (get_or s at 0)) (drop (at + 1) s)
  unfolding size_of
  size_brace g z =
      let l : length p ≡ inside (byte "{") (byte "}") (drop (at + 1) s) = ap length g ∙ length-take-le (inside (byte "{") (byte "}") (drop (at + 1) s)) (drop (at + 1) s) (span_le (depth (byte "{") (byte "}")) 1 (drop (at + 1) s)) in
      rw (word_kind (get_or s at 0) e, z) (omega (arith, l))

  pub size_quote : p ≡ take (quote_size (drop (at + 1) s)) (drop (at + 1) s) → get_or s at 0 ≡ byte "\"" → length p + 2 ≡ 1 + size_of (kind_of false (get_or s at 0)) (drop (at + 1) s)
  unfolding size_of
  size_quote g z =
      let l : length p ≡ quote_size (drop (at + 1) s) = ap length g ∙ length-take-le (quote_size (drop (at + 1) s)) (drop (at + 1) s) (span_le quote_state 1 (drop (at + 1) s)) in
      rw (word_kind (get_or s at 0) e, z) (omega (arith, l))

  pub size_bracket : p ≡ take (inside (byte "[") (byte "]") (drop (at + 1) s)) (drop (at + 1) s) → get_or s at 0 ≡ byte "[" → length p + 2 ≡ 1 + size_of (kind_of false (get_or s at 0)) (drop (at + 1) s)
  unfolding size_of
  size_bracket g z =
      let l : length p ≡ inside (byte "[") (byte "]") (drop (at + 1) s) = ap length g ∙ length-take-le (inside (byte "[") (byte "]") (drop (at + 1) s)) (drop (at + 1) s) (span_le (depth (byte "[") (byte "]")) 1 (drop (at + 1) s)) in
      rw (word_kind (get_or s at 0) e, z) (omega (arith, l))

  pub size_plain : p ≡ take (before ends_plain (drop (at + 1) s)) (drop (at + 1) s) → (get_or s at 0 ≡ byte "{" → ⊥) → (get_or s at 0 ≡ byte "\"" → ⊥) → (get_or s at 0 ≡ byte "[" → ⊥) → length p + 1 ≡ 1 + size_of (kind_of false (get_or s at 0)) (drop (at + 1) s)
  unfolding size_of
  size_plain g x y z =
      let l : length p ≡ before ends_plain (drop (at + 1) s) = ap length g ∙ length-take-le (before ends_plain (drop (at + 1) s)) (drop (at + 1) s) (before_le ends_plain (drop (at + 1) s)) in
      rw (word_kind (get_or s at 0) e, ne_eqb (get_or s at 0) (byte "{") x, ne_eqb (get_or s at 0) (byte "\"") y, ne_eqb (get_or s at 0) (byte "[") z) (omega (arith, l))

-- a part of what stands behind is within
pub part_in : (s p : List ℕ) (a n m : ℕ) → p ≡ take n (drop (a + 1) s) → a < length s → m ≤ length p + 2 → a + m ≤ length s + 1
part_in s p a n m e h g =
    let l : length (take n (drop (a + 1) s)) ≤ length (drop (a + 1) s) = rw length-take (omega arith) in
    omega (arith, ap length e, l, length-drop (a + 1) s)

pub part_in_one : (s p : List ℕ) (a n : ℕ) → p ≡ take n (drop (a + 1) s) → a < length s → a + (length p + 1) ≤ length s + 1
part_in_one s p a n e h = part_in s p a n (length p + 1) e h (omega arith)

pub part_in_two : (s p : List ℕ) (a n : ℕ) → p ≡ take n (drop (a + 1) s) → a < length s → a + (length p + 2) ≤ length s + 1
part_in_two s p a n e h = part_in s p a n (length p + 2) e h (omega arith)

pub ruleset sizes = (rules, size_brace, size_quote, size_bracket, size_plain, part_in_one, part_in_two)

-- ---- a continuation lies within the text

pub joint_in : (s : List ℕ) (i x y z r : ℕ) → r ≡ joint_by x y z → x ≡ get_or s i 0 → y ≡ get_or s (i + 1) 0 → z ≡ get_or s (i + 2) 0 → i < length s → i + r < length s
unfolding joint_by
joint_in s i x y z r e a b c h = go (eqb x (byte "\\")) (eqb y (byte "\n")) (eqb y (byte "\r")) (eqb z (byte "\n")) refl refl e
  where
    second : eqb y (byte "\n") ≡ true → i + 1 < length s
    second g = there (leb (length s) (i + 1)) refl
      where
        there : (t : Bool) → leb (length s) (i + 1) ≡ t → i + 1 < length s
        there true q = let l : length s ≤ i + 1 = leb-true (length s) (i + 1) q in let v : y ≡ 10 = eqb-true y 10 g in absurd (omega (arith, b, get_or-eq_default s 0 l, v))
        there false q = leb-false (length s) (i + 1) q

    third : eqb z (byte "\n") ≡ true → i + 2 < length s
    third g = there (leb (length s) (i + 2)) refl
      where
        there : (t : Bool) → leb (length s) (i + 2) ≡ t → i + 2 < length s
        there true q = let l : length s ≤ i + 2 = leb-true (length s) (i + 2) q in let v : z ≡ 10 = eqb-true z 10 g in absurd (omega (arith, c, get_or-eq_default s 0 l, v))
        there false q = leb-false (length s) (i + 2) q

    go : (t u v w : Bool) → eqb y (byte "\n") ≡ u → eqb z (byte "\n") ≡ w → r ≡ cond (t && u) 1 (cond (t && (v && w)) 2 0) → i + r < length s
    go true true v w p q f = let l : i + 1 < length s = second p in omega arith
    go true false true true p q f = let l : i + 2 < length s = third q in omega arith
    go true false true false p q f = omega arith
    go true false false w p q f = omega arith
    go false u v w p q f = omega arith

-- no continuation begins with another byte than a backslash
pub no_joint : (s : List ℕ) (i : ℕ) → (get_or s i 0 ≡ byte "\\" → ⊥) → 0 ≡ joint (drop i s)
unfolding joint_by
no_joint s i h =
    let e : get_or (drop i s) 0 0 ≡ get_or s i 0 = get_or-drop i s 0 0 ∙ ap (λ (k : ℕ). get_or s k 0) (add-zero i) in
    rw (e, ne_eqb (get_or s i 0) (byte "\\") h)

-- no byte ends the plain word: all of it is passed
pub plain_all : (s : List ℕ) (i a : ℕ) → a ≡ i + before ends_plain (drop i s) → length s ≤ i → i ≤ length s → Ends a (length s) (length s)
plain_all s i a inv h g = let e : i ≡ length s = omega arith in rw e at (before_end ends_plain s i a inv h g)
