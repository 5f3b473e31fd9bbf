-- Laws: what a loop writes to an area. `Written` is its invariant, and `Wrote` what it leaves. Assumes nothing.
use Rattle.std.specs.Prelude.{◌≡◌, refl, List, [], ◌∷◌, ◌++◌, ℕ, ◌+◌, ◌≤◌, ◌<◌, length, take, drop, get_or, set}
use Rattle.std.proofs.Common.{sym, ap, ◌∙◌, append_assoc, append-nil, add-one, arith, drop_of_length-le, length-set, length-append, length-drop, take-append-drop, drop-drop, take-suc-set, drop-set-lt, length-take-le, take_at, drop_at, take-take}
use Rattle.std.proofs.lemmas.List.{take-append-le}
use Rattle.text.specs.Lists.{here}
use Rattle.spans.specs.Area.{Wrote}

-- `l₀` was the area and `l` is: from `at` on `all` is to be written, up to `o` it is, and `rest` is left to write
pub record Written (l₀ : List ℕ) (at : ℕ) (all rest l : List ℕ) (o : ℕ) : Type 0 where
  pub front : take o l ++ rest ≡ take at l₀ ++ all
  pub back : drop o l ≡ drop o l₀
  pub long : length l ≡ length l₀
  pub low : at ≤ o
  pub high : o ≤ length l₀

module _ (l₀ : List ℕ) (at : ℕ) (all : List ℕ) where
  pub written_none : at ≤ length l₀ → Written l₀ at all all l₀ at
  written_none h = record { front = refl; back = refl; long = refl; low = omega arith; high = h }

  pub written_start : (n : ℕ) → at + n ≤ length l₀ → Written l₀ at all all l₀ at
  written_start n h = written_none (omega arith)

  -- a byte is stored
  pub written_byte : (v : ℕ) (rest l : List ℕ) (o : ℕ) → o < length l₀ → Written l₀ at all (v ∷ rest) l o → Written l₀ at all rest (set l o v) (o + 1)
  written_byte v rest l o h w =
      let hl : o < length l = omega arith in
      let up : o < o + 1 = omega arith in
      record {
        front = rw (add-one, take-suc-set, append_assoc) w.front;
        back = drop-set-lt (o + 1) l o v up ∙ rw (← (drop-drop 1 o l), ← (drop-drop 1 o l₀), w.back);
        long = length-set l o v ∙ w.long;
        low = omega arith;
        high = omega arith;
      }

  -- a piece is written by a call
  pub written_piece : (vs rest l l' : List ℕ) (o e : ℕ) → Written l₀ at all (vs ++ rest) l o → e ≤ length l₀ → Wrote l l' o vs e → Written l₀ at all rest l' e
  written_piece vs rest l l' o e w h r =
      let p : List ℕ = take o l ++ vs in
      let ho : o ≤ length l = omega arith in
      let k : length p ≡ e = length-append (take o l) vs ∙ omega (arith, length-take-le o l ho) in
      let g : l' ≡ p ++ drop e l = r.holds ∙ sym (append_assoc (take o l) vs (drop e l)) in
      record {
        front = rw (g, take_at p (drop e l) e k, append_assoc) w.front;
        back = rw (g, drop_at p (drop e l) e k, r.ends, ← (drop-drop (length vs) o l), ← (drop-drop (length vs) o l₀), w.back);
        long = ap length g ∙ length-append p (drop e l) ∙ omega (arith, length-drop e l);
        low = omega arith;
        high = h;
      }

  -- all is written
  pub written_all : (l : List ℕ) (o : ℕ) → Written l₀ at all [] l o → Wrote l₀ l at all o
  written_all l o w =
      let f : take o l ≡ take at l₀ ++ all = rw append-nil at w.front in
      let hl : o ≤ length l = omega arith in
      let ha : at ≤ length l₀ = omega arith in
      record {
        ends = omega (arith, simp length-append at (ap length f), length-take-le o l hl, length-take-le at l₀ ha);
        holds = sym (take-append-drop o l) ∙ rw (f, w.back, append_assoc);
      }

-- what would pass the limit, piece by piece, passes it as a whole
pub written_over : (l₀ : List ℕ) (at : ℕ) (all vs rest l : List ℕ) (o m : ℕ) → Written l₀ at all (vs ++ rest) l o → m < o + length vs → m < at + length all
written_over l₀ at all vs rest l o m w h =
    let ho : o ≤ length l = omega arith in
    let ha : at ≤ length l₀ = omega arith in
    omega (arith, simp length-append at (ap length w.front), length-take-le o l ho, length-take-le at l₀ ha)

-- what stands before is kept
pub written_kept : (l₀ : List ℕ) (at : ℕ) (all rest l : List ℕ) (o : ℕ) → Written l₀ at all rest l o → take at l ≡ take at l₀
written_kept l₀ at all rest l o w =
    let ho : o ≤ length l = omega arith in
    let ha : at ≤ length l₀ = omega arith in
    let hl : at ≤ length (take o l) = omega (arith, length-take-le o l ho) in
    sym (take-append-le at (take o l) rest hl ∙ take-take at o l w.low) ∙ ap (take at) w.front ∙ take_at (take at l₀) all at (length-take-le at l₀ ha)

-- ---- what has been written

module _ (l₀ l : List ℕ) (at : ℕ) (all : List ℕ) (r : ℕ) (w : Wrote l₀ l at all r) (h : r ≤ length l₀) where
  start : at ≤ length l₀
  start = omega (arith, w.ends)

  sized : length (take at l₀) ≡ at
  sized = length-take-le at l₀ start

  pub wrote_kept : take at l ≡ take at l₀
  wrote_kept = ap (take at) w.holds ∙ take_at (take at l₀) (all ++ drop r l₀) at sized

  pub wrote_long : length l ≡ length l₀
  wrote_long = ap length w.holds ∙ simp length-append (omega (arith, sized, length-drop r l₀, w.ends))

  pub wrote_back : drop r l ≡ drop r l₀
  wrote_back =
      let k : length (take at l₀ ++ all) ≡ r = length-append (take at l₀) all ∙ omega (arith, sized, w.ends) in
      ap (drop r) (w.holds ∙ sym (append_assoc (take at l₀) all (drop r l₀))) ∙ drop_at (take at l₀ ++ all) (drop r l₀) r k

  -- the area up to the end of what is written
  pub wrote_front : take r l ≡ take at l₀ ++ all
  wrote_front =
      let k : length (take at l₀ ++ all) ≡ r = length-append (take at l₀) all ∙ omega (arith, sized, w.ends) in
      ap (take r) (w.holds ∙ sym (append_assoc (take at l₀) all (drop r l₀))) ∙ take_at (take at l₀ ++ all) (drop r l₀) r k

-- nothing is written
pub wrote_none : (l : List ℕ) (at : ℕ) → Wrote l l at [] at
wrote_none l at = record { ends = omega arith; holds = sym (take-append-drop at l) }

-- one write behind another
pub wrote_two : (l₀ l₁ l₂ : List ℕ) (at : ℕ) (p q : List ℕ) (m r : ℕ) → Wrote l₀ l₁ at p m → Wrote l₁ l₂ m q r → r ≤ length l₀ → Wrote l₀ l₂ at (p ++ q) r
wrote_two l₀ l₁ l₂ at p q m r w v h =
    let hm : m ≤ length l₀ = omega (arith, v.ends) in
    let b : drop r l₁ ≡ drop r l₀ = rw (v.ends, ← (drop-drop (length q) m l₁), ← (drop-drop (length q) m l₀), wrote_back l₀ l₁ at p m w hm) in
    record {
      ends = rw length-append (omega (arith, w.ends, v.ends));
      holds = v.holds ∙ rw (wrote_front l₀ l₁ at p m w hm, b, append_assoc, append_assoc);
    }

-- ---- a copy of s, byte by byte

module _ (l₀ all s l : List ℕ) (at i o : ℕ) (w : Written l₀ at all (drop i s) l o) where
  pub copy_byte : i < length s → o ≤ at + i → at + length s ≤ length l₀ → Written l₀ at all (drop (i + 1) s) (set l o (get_or s i 0)) (o + 1)
  copy_byte h r g = written_byte l₀ at all (get_or s i 0) (drop (i + 1) s) l o (omega arith) (rw (here s i h) at w)

  pub copy_all : length s ≤ i → Wrote l₀ l at all o
  copy_all h = written_all l₀ at all l o (rw (drop_of_length-le s h) at w)
