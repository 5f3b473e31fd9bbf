-- Laws: the joined files, one by one, and what is kept. Assumes nothing.
use Prim.Native.Nat.{ℕ, zero, suc, ◌+◌, ◌-◌, ◌*◌, ◌≤◌, ◌<◌}
use native.Mathlib.Omega.{arith}
use Rattle.std.specs.Prelude.{◌≡◌, Bool, List, ◌++◌, take, drop, get_or, set}
use Rattle.std.proofs.Math.Path.{refl}
use Rattle.std.proofs.Common.{◌∙◌, append_assoc, take_at, drop_at}
use Rattle.std.proofs.Math.Bool.{true, false}
use Rattle.std.proofs.Math.Dec.{eqb}
use Rattle.std.proofs.Math.ListN.{length, length-set, length-append}
use Rattle.std.proofs.Math.Seq.{get_or-set_same, get_or-set_other, drop-set-lt, take-set-le}
use borrow.Author.Tests.{eqb-true, eqb-false}
use Rattle.text.specs.Ascii.{Bytes}
use Rattle.tcl.specs.Join.{joined, join}
use Rattle.tcl.specs.Rewrites.{join_short}
use Rattle.jobindex.specs.Index.{body_at}
use Rattle.joined.specs.Joined.{bodies, body_bytes, begin_place, length_place, joined_at, placed, Room, Joined}

module _ (job : Bytes) (index : List ℕ) where
  pub bodies_short : (n : ℕ) → length (bodies job index n) ≤ body_bytes job index n
  unfolding bodies body_bytes
  bodies_short zero = omega arith
  bodies_short (suc n) = let r = bodies_short n in let q = join_short (body_at job index n) in rw length-append (omega arith)

  -- a file is one of them
  pub body_within : (n k : ℕ) → k < n → body_bytes job index k + length (body_at job index k) ≤ body_bytes job index n
  unfolding body_bytes
  body_within zero k h = absurd (omega arith)
  body_within (suc n) k h = go (eqb k n) refl (λ l. body_within n k l)
    where
      go : (t : Bool) → eqb k n ≡ t → (k < n → body_bytes job index k + length (body_at job index k) ≤ body_bytes job index n) → body_bytes job index k + length (body_at job index k) ≤ body_bytes job index n + length (body_at job index n)
      go true e f = let z : k ≡ n = eqb-true k n e in rw z (omega arith)
      go false e f = let l : k < n = omega (arith, eqb-false k n e) in let r = f l in omega arith

-- ---- the numbers

module _ (job : Bytes) (nums : List ℕ) where
  pub placed_long : (n : ℕ) → length (placed job nums n) ≡ length nums
  unfolding placed
  placed_long zero = refl
  placed_long (suc n) =
      length-set (set (placed job nums n) (begin_place n) (length (bodies job nums n))) (length_place n) (length (join (body_at job nums n)))
      ∙ length-set (placed job nums n) (begin_place n) (length (bodies job nums n))
      ∙ placed_long n

  -- below them all is kept
  pub placed_below : (n i : ℕ) → i < 1152 → get_or (placed job nums n) i 0 ≡ get_or nums i 0
  unfolding placed
  placed_below zero i h = refl
  placed_below (suc n) i h =
      get_or-set_other (set (placed job nums n) (begin_place n) (length (bodies job nums n))) (length_place n) i (length (join (body_at job nums n))) 0 (λ e. absurd (omega arith))
      ∙ get_or-set_other (placed job nums n) (begin_place n) i (length (bodies job nums n)) 0 (λ e. absurd (omega arith))
      ∙ placed_below n i h

  pub placed_front : (n : ℕ) → take 1152 (placed job nums n) ≡ take 1152 nums
  unfolding placed
  placed_front zero = refl
  placed_front (suc n) =
      take-set-le 1152 (set (placed job nums n) (begin_place n) (length (bodies job nums n))) (length_place n) (length (join (body_at job nums n))) (omega arith)
      ∙ take-set-le 1152 (placed job nums n) (begin_place n) (length (bodies job nums n)) (omega arith)
      ∙ placed_front n

  -- and behind them
  pub placed_back : (n m : ℕ) → 1152 + 2 * n ≤ m → drop m (placed job nums n) ≡ drop m nums
  unfolding placed
  placed_back zero m h = refl
  placed_back (suc n) m h =
      drop-set-lt m (set (placed job nums n) (begin_place n) (length (bodies job nums n))) (length_place n) (length (join (body_at job nums n))) (omega arith)
      ∙ drop-set-lt m (placed job nums n) (begin_place n) (length (bodies job nums n)) (omega arith)
      ∙ placed_back n m (omega arith)

  module _ (room : 1216 ≤ length nums) where
    new_begin : (n : ℕ) → n < 32 → get_or (placed job nums (suc n)) (begin_place n) 0 ≡ length (bodies job nums n)
    unfolding placed
    new_begin n h =
        get_or-set_other (set (placed job nums n) (begin_place n) (length (bodies job nums n))) (length_place n) (begin_place n) (length (join (body_at job nums n))) 0 (λ e. absurd (omega arith))
        ∙ get_or-set_same (placed job nums n) (begin_place n) (length (bodies job nums n)) 0 (omega (arith, placed_long n))

    new_length : (n : ℕ) → n < 32 → get_or (placed job nums (suc n)) (length_place n) 0 ≡ length (join (body_at job nums n))
    unfolding placed
    new_length n h =
        get_or-set_same (set (placed job nums n) (begin_place n) (length (bodies job nums n))) (length_place n) (length (join (body_at job nums n))) 0
        (omega (arith, placed_long n, length-set (placed job nums n) (begin_place n) (length (bodies job nums n))))

    older : (n i : ℕ) → i < begin_place n → get_or (placed job nums (suc n)) i 0 ≡ get_or (placed job nums n) i 0
    unfolding placed
    older n i h =
        get_or-set_other (set (placed job nums n) (begin_place n) (length (bodies job nums n))) (length_place n) i (length (join (body_at job nums n))) 0 (λ e. absurd (omega arith))
        ∙ get_or-set_other (placed job nums n) (begin_place n) i (length (bodies job nums n)) 0 (λ e. absurd (omega arith))

    pub begins : (n k : ℕ) → n ≤ 32 → k < n → get_or (placed job nums n) (begin_place k) 0 ≡ length (bodies job nums k)
    begins zero k h g = absurd (omega arith)
    begins (suc n) k h g = go (eqb k n) refl (λ l. begins n k (omega arith) l)
      where
        go : (t : Bool) → eqb k n ≡ t → (k < n → get_or (placed job nums n) (begin_place k) 0 ≡ length (bodies job nums k)) → get_or (placed job nums (suc n)) (begin_place k) 0 ≡ length (bodies job nums k)
        go true e f = let z : k ≡ n = eqb-true k n e in rw z (new_begin n (omega arith))
        go false e f = let l : k < n = omega (arith, eqb-false k n e) in older n (begin_place k) (omega arith) ∙ f l

    pub lengths : (n k : ℕ) → n ≤ 32 → k < n → get_or (placed job nums n) (length_place k) 0 ≡ length (join (body_at job nums k))
    lengths zero k h g = absurd (omega arith)
    lengths (suc n) k h g = go (eqb k n) refl (λ l. lengths n k (omega arith) l)
      where
        go : (t : Bool) → eqb k n ≡ t → (k < n → get_or (placed job nums n) (length_place k) 0 ≡ length (join (body_at job nums k))) → get_or (placed job nums (suc n)) (length_place k) 0 ≡ length (join (body_at job nums k))
        go true e f = let z : k ≡ n = eqb-true k n e in rw z (new_length n (omega arith))
        go false e f = let l : k < n = omega (arith, eqb-false k n e) in older n (length_place k) (omega arith) ∙ f l

-- ---- the texts

-- text k of what stands one behind the other
pub text_is : (job : Bytes) (nums : List ℕ) (n k : ℕ) (rest : Bytes) → k < n
    → take (length (join (body_at job nums k))) (drop (length (bodies job nums k)) (bodies job nums n ++ rest)) ≡ join (body_at job nums k)
unfolding bodies
text_is job nums zero k rest h = absurd (omega arith)
text_is job nums (suc n) k rest h = go (eqb k n) refl (λ l. text_is job nums n k (join (body_at job nums n) ++ rest) l)
  where
    go : (t : Bool) → eqb k n ≡ t
        → (k < n → take (length (join (body_at job nums k))) (drop (length (bodies job nums k)) (bodies job nums n ++ (join (body_at job nums n) ++ rest))) ≡ join (body_at job nums k))
        → take (length (join (body_at job nums k))) (drop (length (bodies job nums k)) ((bodies job nums n ++ join (body_at job nums n)) ++ rest)) ≡ join (body_at job nums k)
    go true e f =
        let z : k ≡ n = eqb-true k n e in
        rw (z, append_assoc (bodies job nums n) (join (body_at job nums n)) rest, drop_at (bodies job nums n) (join (body_at job nums n) ++ rest) (length (bodies job nums n)) refl, take_at (join (body_at job nums n)) rest (length (join (body_at job nums n))) refl)
    go false e f =
        let l : k < n = omega (arith, eqb-false k n e) in
        rw (append_assoc (bodies job nums n) (join (body_at job nums n)) rest) (f l)

module _ (job files₀ files nums₀ nums : List ℕ) (n r : ℕ) (v : Room job files₀ nums₀ n) (w : Joined job files₀ files nums₀ nums n r) where
  -- "The file": the joined text of file k
  pub joined_is : (k : ℕ) → k < n → joined_at files nums k ≡ join (body_at job nums₀ k)
  unfolding joined_at
  joined_is k h =
      rw (w.places, begins job nums₀ v.numbers n k v.few h, lengths job nums₀ v.numbers n k v.few h, w.texts.holds)
      (text_is job nums₀ n k (drop r files₀) h)
