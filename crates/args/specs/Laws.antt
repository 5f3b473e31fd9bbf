-- Laws of the stored words, from a place on. Assumes nothing.
use Prim.Native.Nat.{ℕ, suc, ◌+◌, ◌-◌, ◌≤◌, ◌<◌}
use Rattle.std.specs.Prelude.{◌≡◌, List, [], ◌∷◌}
use native.Mathlib.Omega.{arith}
use Rattle.std.proofs.Math.Nat.{sub-zero}
use Rattle.text.specs.Ascii.{Bytes}
use Rattle.spans.specs.Span.{bytes, pair_at, pairs, strings}
use Rattle.args.specs.View.{words_from}

module _ (mem : Bytes) (words : List ℕ) (n : ℕ) where
  -- all of them
  pub words_all : words_from mem words n 0 ≡ strings mem words 0 n
  words_all = rw sub-zero

  pub words_none : (i : ℕ) → n ≤ i → words_from mem words n i ≡ []
  unfolding pairs
  words_none i h = let e : n - i ≡ 0 = omega arith in rw e

  pub words_here : (i : ℕ) → i < n → words_from mem words n i ≡ bytes mem (pair_at words i) ∷ words_from mem words n (i + 1)
  unfolding pairs
  words_here i h = let e : n - i ≡ suc (n - (i + 1)) = omega arith in rw e
