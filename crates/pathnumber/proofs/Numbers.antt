-- Numbers made byte by byte: the number so far, with what is left behind it, is the number of all. Assumes nothing.
use Rattle.std.specs.Prelude.{Option, Some, None}
use Prim.Native.Nat.{ℕ, ◌+◌, ◌<◌, ◌≤◌}
use mathlib.Core.Path.{◌≡◌, refl, ap, ◌∙◌}
use mathlib.Core.List.{[], ◌∷◌}
use native.Mathlib.Omega.{arith}
use lib.ListN.{length, drop, get_or, drop_of_length-le}
use borrow.Author.Rules.{rules}
use Rattle.text.specs.Ascii.{Bytes, byte}
use Rattle.text.specs.Lists.{here}
use Rattle.text.specs.Classes.{dot_of}
use Rattle.names.specs.Name.{name_of, step_of}
use Rattle.names.specs.declared.name.Name.{Name}
use Rattle.names.specs.Laws.{dot_slash, dot_other}
use Rattle.design.specs.Paths.{dotted}
use Rattle.pathnumber.specs.Number.{after, number}

-- ---- a text

pub record Numbers (total : ℕ) (p : Bytes) (x i : ℕ) : Type 0 where
  pub keeps : number x (drop i p) ≡ total

pub numbers_start : (h : ℕ) (p : Bytes) → Numbers (number h p) p h 0
numbers_start h p = record { keeps = refl }

module _ (total : ℕ) (p : Bytes) (x i : ℕ) (inv : Numbers total p x i) where
  pub numbers_end : length p ≤ i → x ≡ total
  unfolding number
  numbers_end h = rw (drop_of_length-le p {i = i} h) at inv.keeps

  pub numbers_next : i < length p → (y : ℕ) → y ≡ after x (get_or p i 0) → Numbers total p y (i + 1)
  unfolding number
  numbers_next h y e = record { keeps = rw e (rw (here p i h) at inv.keeps) }

pub ruleset numbers = (rules, numbers_start, numbers_end, numbers_next)

-- ---- an element

module _ (left : Bytes) (h total : ℕ) where
  pub element_end : number h (dotted left) ≡ total → left ≡ [] → h ≡ total
  unfolding number
  element_end e g = rw g at e

pub element_next : (left more : Bytes) (b d h y total : ℕ) → number h (dotted left) ≡ total → left ≡ b ∷ more → d ≡ dot_of b → y ≡ after h d → number y (dotted more) ≡ total
unfolding number
element_next left more b d h y total e g ed ey = rw (ey, ed) (rw g at e)
