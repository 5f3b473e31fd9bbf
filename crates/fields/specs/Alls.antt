-- Laws: a test of every byte, from i on, as a loop makes it.
-- Assumes nothing.
use Rattle.std.specs.Prelude.{◌≡◌, ℕ, ◌+◌, ◌<◌, ◌≤◌, Bool, true, false, not, List, length, drop, get_or}
use Rattle.std.proofs.Math.Path.{sym}
use Rattle.std.proofs.Common.{◌∙◌, drop_of_length-le}
use borrow.Author.Tests.{not-true, not-false}
use Rattle.text.specs.Scan.{all}
use Rattle.text.specs.Lists.{here}

-- every byte from i on
module _ (p : ℕ → Bool) (s : List ℕ) (i : ℕ) (a : Bool) (inv : a ≡ all p (drop i s)) where
  pub all_end : length s ≤ i → true ≡ a
  unfolding all
  all_end h = sym (inv ∙ rw (drop_of_length-le s {i = i} h))

  module _ (r : Bool) (h : i < length s) (e : r ≡ p (get_or s i 0)) where
    pub all_stop : not r ≡ true → false ≡ a
    unfolding all
    all_stop t = sym (inv ∙ rw (here s i h, ← e, not-true r t))

    pub all_step : not r ≡ false → a ≡ all p (drop (i + 1) s)
    unfolding all
    all_step t = inv ∙ rw (here s i h, ← e, not-false r t)
