-- What the reader's answer is told as.
-- Assumes nothing.
use mathlib.Core.Path.{◌≡◌}
use Prim.Native.Nat.{ℕ, ◌+◌, ◌*◌, ◌<◌, ◌≤◌}
use mathlib.Core.List.{List}
use lib.ListN.{length}
use borrow.Author.Tests.{le-leb, lt-leb}
use Rattle.jobindex.specs.declared.Header.{Header}
use Rattle.std.specs.Prelude.{Result, Ok, Err}
use Rattle.joblines.specs.Forms.{number_of}
use Rattle.job.specs.declared.Refused.{Refused}
use Rattle.job.specs.Reader.{JobRead}
use Rattle.jobc.specs.Told.{checked}

module _ (job index : List ℕ) where
  pub tell_short : length index < 1280 → 4294967296 ≡ checked (length index) job
  unfolding checked
  tell_short h = rw (lt-leb 1280 (length index) h)

  module _ (index' : List ℕ) (r : Result Header Refused) (s : JobRead job index index' r) where
    module _ (x : Refused) (e : r ≡ Err x) where
      pub tell_refused : (k : ℕ) → k ≡ number_of x.refusal → 1280 ≤ length index → k * 4294967296 + x.line ≡ checked (length index) job
      unfolding checked
      tell_refused k ek h = rw (ek, le-leb 1280 (length index) h, ← s.says, e)

      pub line_small : x.line ≤ 65537
      line_small = rw e at s.counts

    pub tell_taken : (head : Header) → r ≡ Ok head → 1280 ≤ length index → 0 ≡ checked (length index) job
    unfolding checked
    tell_taken head e h = rw (le-leb 1280 (length index) h, ← s.says, e)
