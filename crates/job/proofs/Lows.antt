-- A test of every byte that passes over several at a time. Assumes nothing.
use mathlib.Core.Path.{◌≡◌, ◌∙◌, sym}
use Prim.Native.Nat.{ℕ, ◌+◌, ◌<◌, ◌≤◌}
use native.Mathlib.Omega.{arith}
use mathlib.Core.Bool.{Bool, false, not, ◌&&◌}
use lib.ListN.{length, drop, get_or}
use borrow.Author.Rules.{rules}
use borrow.Author.Tests.{not-false}
use Rattle.text.specs.Ascii.{Bytes}
use Rattle.text.specs.Classes.{is_ascii}
use Rattle.text.specs.Scan.{all}
use Rattle.text.specs.Lists.{here}
use Rattle.text.specs.Sames.{both}
use Rattle.job.specs.Reader.{Low}

abbrev low : Bytes → ℕ → Bool
low s i = is_ascii (get_or s i 0)

-- one byte, and some and one more
low_one : (s : Bytes) (i : ℕ) → i < length s → Low s i 1 (low s i)
unfolding all
low_one s i h = record { passed = λ t. rw (here s i h, t) }

low_on : (s : Bytes) (i n : ℕ) (a : Bool) → i + n < length s → Low s i n a → Low s i (n + 1) (a && low s (i + n))
low_on s i n a h f =
    let e : i + n + 1 ≡ i + (n + 1) = omega arith in
    record { passed = λ t. let p = both a (low s (i + n)) t in f.passed p.0 ∙ rw e at ((low_one s (i + n) h).passed p.1) }

module _ (s : Bytes) (i : ℕ) where
  pub low_eight : i + 8 ≤ length s → Low s i 8 (((((((low s i && low s (i + 1)) && low s (i + 2)) && low s (i + 3)) && low s (i + 4)) && low s (i + 5)) && low s (i + 6)) && low s (i + 7))
  low_eight h =
      low_on s i 7 _ (omega arith) (low_on s i 6 _ (omega arith) (low_on s i 5 _ (omega arith) (low_on s i 4 _ (omega arith)
      (low_on s i 3 _ (omega arith) (low_on s i 2 _ (omega arith) (low_on s i 1 _ (omega arith) (low_one s i (omega arith))))))))

  -- the loop
  module _ (a : Bool) (inv : a ≡ all is_ascii (drop i s)) where
    pub low_found : (r : Bool) → r ≡ all is_ascii (drop i s) → r ≡ a
    low_found r e = e ∙ sym inv

    pub low_step : (r : Bool) → Low s i 8 r → not r ≡ false → a ≡ all is_ascii (drop (i + 8) s)
    low_step r c h = inv ∙ c.passed (not-false r h)

pub ruleset lows = (rules, low_eight, low_found, low_step)
