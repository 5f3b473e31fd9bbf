-- Laws: bytes rewritten piece by piece, from a place on; joining never lengthens. Assumes nothing.
use Prim.Native.Nat.{◌+◌, ◌<◌, ◌≤◌, suc, zero, ℕ}
use Rattle.std.specs.Prelude.{◌≡◌, get_or, length, set, take}
use Rattle.std.proofs.Common.{ap, drop_of_length-le, take-append-drop, drop-drop}
use Rattle.std.proofs.Math.Path.{refl}
use mathlib.Core.List.{List, [], ◌++◌, ◌∷◌}
use native.Mathlib.Omega.{arith}
use Rattle.std.proofs.Math.ListN.{drop}
use Rattle.spans.specs.Writes.{Written, written_all, written_byte}
use Rattle.spans.specs.Area.{Wrote}
use Rattle.text.specs.Ascii.{Bytes}
use Rattle.text.specs.Lists.{here}
use Rattle.tcl.specs.Rewrite.{rewrite}
use Rattle.tcl.specs.Join.{joint, joined, join}
use Rattle.text.specs.Scan.{all}

module _ (more : Bytes → ℕ) (to : Bytes → Bytes) where
  pub rewrite_skip : (k : ℕ) (xs : List ℕ) → rewrite more to k xs ≡ rewrite more to 0 (drop k xs)
  unfolding rewrite
  rewrite_skip zero [] = refl
  rewrite_skip zero (x ∷ xs) = refl
  rewrite_skip (suc k) [] = refl
  rewrite_skip (suc k) (x ∷ xs) = rewrite_skip k xs

  -- the piece at i has n bytes besides its first
  pub rewrite_step : (s : List ℕ) (i n : ℕ) → i < length s → n ≡ more (drop i s) → rewrite more to 0 (drop i s) ≡ to (drop i s) ++ rewrite more to 0 (drop (i + 1 + n) s)
  unfolding rewrite
  rewrite_step s i n h e =
      let e' : n ≡ more (get_or s i 0 ∷ drop (i + 1) s) = rw (here s i h) at e in
      rw (here s i h, ← e', rewrite_skip n (drop (i + 1) s), drop-drop)

  pub rewrite_end : (s : List ℕ) (i : ℕ) → length s ≤ i → rewrite more to 0 (drop i s) ≡ []
  unfolding rewrite
  rewrite_end s i h = rw (drop_of_length-le s {i = i} h)

  -- written to an area
  pub rewrite_all : (l₀ all s l : List ℕ) (at i o : ℕ) → Written l₀ at all (rewrite more to 0 (drop i s)) l o → length s ≤ i → Wrote l₀ l at all o
  rewrite_all l₀ all s l at i o w h = written_all l₀ at all l o (rw (rewrite_end s i h) at w)

  -- v is written for it. That there is room follows from what a loop keeps: it writes at most a byte for each that it reads
  pub rewrite_byte : (l₀ all s l : List ℕ) (at i o n v : ℕ) → Written l₀ at all (rewrite more to 0 (drop i s)) l o → i < length s → n ≡ more (drop i s) → to (drop i s) ≡ v ∷ [] → o ≤ at + i → at + length s ≤ length l₀ → Written l₀ at all (rewrite more to 0 (drop (i + 1 + n) s)) (set l o v) (o + 1)
  rewrite_byte l₀ all s l at i o n v w h e t r g =
      written_byte l₀ at all v (rewrite more to 0 (drop (i + 1 + n) s)) l o (omega arith) (rw (rewrite_step s i n h e, t) at w)

  -- pieces that stay as they are written change nothing
  pub rewrite_same : ((s : List ℕ) → to s ≡ take (1 + more s) s) → (k : ℕ) (xs : List ℕ) → rewrite more to k xs ≡ drop k xs
  unfolding rewrite
  rewrite_same e zero [] = refl
  rewrite_same e zero (x ∷ xs) =
      let q : 1 + more (x ∷ xs) ≡ suc (more (x ∷ xs)) = omega arith in
      rw (e (x ∷ xs), rewrite_same e (more (x ∷ xs)) xs, q) (ap (λ (t : List ℕ). x ∷ t) (take-append-drop (more (x ∷ xs)) xs))
  rewrite_same e (suc k) [] = refl
  rewrite_same e (suc k) (x ∷ xs) = rewrite_same e k xs

-- ---- joining never lengthens

no_longer : (k : ℕ) (s : Bytes) → length (rewrite joint joined k s) ≤ length s
unfolding rewrite
no_longer k [] = omega arith
no_longer zero (x ∷ xs) = let h : length (rewrite joint joined (joint (x ∷ xs)) xs) ≤ length xs = no_longer (joint (x ∷ xs)) xs in omega arith
no_longer (suc k) (x ∷ xs) = let h : length (rewrite joint joined k xs) ≤ length xs = no_longer k xs in omega arith

pub join_short : (s : Bytes) → length (join s) ≤ length s
join_short s = no_longer 0 s
