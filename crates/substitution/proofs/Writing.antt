-- Pieces written to the area: laws as the needs ask them. Assumes nothing.
use Rattle.std.specs.Prelude.{Option, Some, None, Result, Ok, Err}
use Rattle.substitution.specs.declared.put.Full.{Full}
use Rattle.substitution.specs.Room.{full}
use Prim.Native.Nat.{◌+◌, ◌-◌, ◌<◌, ◌≤◌, suc, ℕ}
use mathlib.Core.Path.{◌∙◌, ◌≡◌, ap, refl, sym}
use mathlib.Core.List.{List, ◌++◌, ◌∷◌}
use mathlib.Core.Bool.{Bool, false, true}
use native.Mathlib.Omega.{arith}
use lib.ListN.{drop, get_or, length, set, take}
use lib.Dec.{leb}
use lib.Seq.{drop-drop, length-take-le, take-take}
use borrow.Author.Rules.{rules}
use borrow.Author.Tests.{leb-false, leb-true, lt-leb}
use Rattle.substitution.specs.declared.piece.Piece.{Piece}
use Rattle.spans.specs.declared.span.Span.{Span}
use Rattle.substitution.specs.Written.{dropped_by, written}
use Rattle.spans.specs.Span.{bytes, found_of}
use Rattle.spans.specs.Writes.{Written, written_all, written_byte, written_kept, written_over, written_piece}
use Rattle.substitution.specs.Stored.{variables}
use Rattle.substitution.specs.Put.{Puts, answer}
use Rattle.tcl.specs.Substitution.{Variable, image, known, piece_more, piece_name}
use Rattle.tcl.specs.Rewrites.{rewrite_step}
use Rattle.spans.specs.Area.{Wrote}
use Rattle.substitution.specs.Puts.{puts_done, puts_full, puts_over, puts_within, puts_wrote}
use Rattle.tcl.specs.Rewrite.{rewrite}
use Rattle.substitution.specs.Piece.{IsPiece}
use Rattle.substitution.proofs.Runs.{written_end, written_step}

-- ---- bytes of a written word, copied

module _ (q : Bool) (body : List ℕ) (i left : ℕ) (h : left ≤ length (written q (drop i body))) (g : 0 < left) where
  copy_in : i < length body
  copy_in = go (leb (length body) i) refl
    where
      go : (t : Bool) → leb (length body) i ≡ t → i < length body
      go true e = let k : length body ≤ i = leb-true (length body) i e in absurd (omega (arith, h, g, ap length (written_end q body i k)))
      go false e = leb-false (length body) i e

  module _ (e : ℕ) (d : e ≡ dropped_by q (drop i body)) where
    copy_left : left - 1 ≤ length (written q (drop (i + 1 + e) body))
    copy_left = omega (arith, h, ap length (written_step q body i e copy_in d))

    front : take left (written q (drop i body)) ≡ get_or body (i + e) 0 ∷ take (left - 1) (written q (drop (i + 1 + e) body))
    front =
        let s : left ≡ suc (left - 1) = omega arith in
        ap (λ (n : ℕ). take n (written q (drop i body))) s ∙ rw (written_step q body i e copy_in d)

    copy_step : (l₀ l all : List ℕ) (o w n : ℕ) → Written l₀ o all (take left (written q (drop i body))) l w → w + left ≡ o + n → o + n ≤ length l₀ → Written l₀ o all (take (left - 1) (written q (drop (i + 1 + e) body))) (set l w (get_or body (i + e) 0)) (w + 1)
    copy_step l₀ l all o w n v k m = written_byte l₀ o all (get_or body (i + e) 0) (take (left - 1) (written q (drop (i + 1 + e) body))) l w (omega arith) (rw front at v)

copy_end : (l₀ l all s : List ℕ) (o w left : ℕ) → Written l₀ o all (take left s) l w → left ≤ 0 → Wrote l₀ l o all w
copy_end l₀ l all s o w left v h = let z : left ≡ 0 = omega arith in written_all l₀ o all l w (rw z at v)

-- the first k of n bytes are copied
module _ (q : Bool) (body : List ℕ) (i k n : ℕ) (h : n - k ≤ length (written q (drop i body))) (g : k < n) where
  pub copy_here : i < length body
  copy_here = copy_in q body i (n - k) h (omega arith)

  module _ (e : ℕ) (d : e ≡ dropped_by q (drop i body)) where
    pub copy_more : n - (k + 1) ≤ length (written q (drop (i + 1 + e) body))
    copy_more = omega (arith, copy_left q body i (n - k) h (omega arith) e d)

    pub copy_next : (l₀ l all : List ℕ) (o : ℕ) → Written l₀ o all (take (n - k) (written q (drop i body))) l (o + k) → o + n ≤ length l₀ → Written l₀ o all (take (n - (k + 1)) (written q (drop (i + 1 + e) body))) (set l (o + k) (get_or body (i + e) 0)) (o + (k + 1))
    copy_next l₀ l all o v m =
        let x : n - k - 1 ≡ n - (k + 1) = omega arith in
        let y : o + k + 1 ≡ o + (k + 1) = omega arith in
        rw (x, y) at (copy_step q body i (n - k) h (omega arith) e d l₀ l all o (o + k) n v (omega arith) m)

pub copy_whole : (l₀ l all s : List ℕ) (o k n : ℕ) → Written l₀ o all (take (n - k) s) l (o + k) → n ≤ k → k ≤ n → Wrote l₀ l o all (o + n)
copy_whole l₀ l all s o k n v h g = let z : k ≡ n = omega arith in rw z at (copy_end l₀ l all s o (o + k) (n - k) v (omega arith))

pub ruleset copies = (rules, copy_here, copy_more, copy_next, copy_whole)

-- ---- up to the limit

module _ (l₀ l : List ℕ) (o limit n e : ℕ) (s : List ℕ) where
  pub part_done : Wrote l₀ l o (take n s) e → n ≤ length s → n ≤ limit - o → o ≤ limit → limit ≤ length l₀ → Puts l₀ l o limit (take n s) (Ok e)
  part_done w h g k m = puts_done l₀ l o limit (take n s) e w (omega (arith, w.ends, length-take-le n s h)) m

  pub all_done : Wrote l₀ l o s e → n ≡ length s → n ≤ limit - o → o ≤ limit → limit ≤ length l₀ → Puts l₀ l o limit s (Ok e)
  all_done w h g k m = puts_done l₀ l o limit s e w (omega (arith, w.ends)) m

module _ (l : List ℕ) (o limit n : ℕ) (s : List ℕ) where
  pub part_full : n ≤ length s → limit - o < n → o ≤ limit → Puts l l o limit (take n s) (Err full)
  part_full h g k = puts_full l o limit (take n s) (omega (arith, length-take-le n s h))

  pub all_full : n ≡ length s → limit - o < n → o ≤ limit → Puts l l o limit s (Err full)
  all_full h g k = puts_full l o limit s (omega arith)

pub value_fits : (o n limit : ℕ) (s l : List ℕ) → n ≡ length s → n ≤ limit - o → o ≤ limit → limit ≤ length l → o + length s ≤ length l
value_fits o n limit s l e h g k = omega arith

pub ruleset limits = (rules, part_done, all_done, part_full, all_full, value_fits)

-- ---- what stands for a piece

module _ (q : Bool) (body s : List ℕ) (i : ℕ) (p : Piece) (k : IsPiece q body i s p) (mem : List ℕ) (vs : List Variable) (f : Option Span) (g : found_of mem f ≡ known vs (take p.name (written q (drop p.from body)))) (l₀ l : List ℕ) (o limit : ℕ) (r : Result ℕ Full) where
  told : found_of mem f ≡ known vs (piece_name s)
  told = g ∙ rw k.named

  pub image_none : f ≡ None → Puts l₀ l o limit (take p.size s) r → Puts l₀ l o limit (image vs s) r
  image_none h w = rw (← told, h, ← k.sized) w

  pub image_value : (v : Span) → f ≡ Some v → Puts l₀ l o limit (bytes mem v) r → Puts l₀ l o limit (image vs s) r
  image_value v h w = rw (← told, h) w

pub ruleset images = (rules, image_none, image_value)

-- ---- a whole word

-- what is left to write at i
abbrev pub left : List Variable → Bool → List ℕ → ℕ → List ℕ
left vs q body i = rewrite piece_more (image vs) 0 (written q (drop i body))

module _ (vs : List Variable) (q : Bool) (body l₀ l all : List ℕ) (at limit i o : ℕ) (w : Written l₀ at all (left vs q body i) l o) where
  module _ (p : Piece) (k : IsPiece q body (i + 1) (written q (drop i body)) p) (files vars : List ℕ) (n m : ℕ) (e : vs ≡ variables (files ++ take m l₀) vars n) (d : m ≤ at) (l' : List ℕ) (r : Result ℕ Full)
      (u : Puts l l' o limit (image (variables (files ++ take m l) vars n) (written q (drop i body))) r) where
    same_vs : variables (files ++ take m l) vars n ≡ vs
    same_vs =
        let k : take m l ≡ take m l₀ = sym (take-take m at l d) ∙ ap (take m) (written_kept l₀ at all (left vs q body i) l o w) ∙ take-take m at l₀ d in
        rw k (sym e)

    some : 0 < length (written q (drop i body))
    some = omega (arith, k.fits, k.sized)

    next : Written l₀ at all (image vs (written q (drop i body)) ++ left vs q body p.end) l o
    next = rw (rewrite_step piece_more (image vs) (written q (drop i body)) 0 (piece_more (written q (drop i body))) some refl, ← k.rest) at w

    u' : Puts l l' o limit (image vs (written q (drop i body))) r
    u' = rw same_vs at u

    pub word_again : (b : ℕ) → r ≡ Ok b → limit ≤ length l₀ → Written l₀ at all (left vs q body p.end) l' b
    word_again b h g =
        let m : b ≤ limit = puts_within l l' o limit (image vs (written q (drop i body))) r u' b h in
        written_piece l₀ at all (image vs (written q (drop i body))) (left vs q body p.end) l l' o b next (omega arith) (puts_wrote l l' o limit (image vs (written q (drop i body))) r u' b h)

    pub word_full : r ≡ Err full → limit ≤ length l₀ → o ≤ limit → Puts l₀ l' at limit all (Err full)
    unfolding answer
    word_full h g j =
        let m : limit < at + length all = written_over l₀ at all (image vs (written q (drop i body))) (left vs q body p.end) l o limit next (puts_over l l' o limit (image vs (written q (drop i body))) r u' h) in
        let b : drop limit l ≡ drop limit l₀ =
        let z : o + (limit - o) ≡ limit = omega arith in
        sym (drop-drop (limit - o) o l ∙ rw z) ∙ ap (drop (limit - o)) w.back ∙ drop-drop (limit - o) o l₀ ∙ rw z in
        let c : take at l' ≡ take at l =
        let z : at ≤ o = w.low in
        sym (take-take at o l' z) ∙ ap (take at) u.kept ∙ take-take at o l z in
        record {
          answered = rw (lt-leb (at + length all) limit m);
          wrote = λ z. absurd (omega arith);
          kept = c ∙ written_kept l₀ at all (left vs q body i) l o w;
          back = u.back ∙ b;
        }

  pub word_done : length body ≤ i → o ≤ limit → limit ≤ length l₀ → Puts l₀ l at limit all (Ok o)
  unfolding rewrite
  word_done h g m = puts_done l₀ l at limit all o (written_all l₀ at all l o (rw (written_end q body i h) at w)) g m

pub word_within : (l l' all : List ℕ) (o limit b : ℕ) (r : Result ℕ Full) → Puts l l' o limit all r → r ≡ Ok b → b ≤ limit
word_within l l' all o limit b r u h = puts_within l l' o limit all r u b h

pub ruleset words = (rules, word_again, word_full, word_done, word_within)

-- ---- the area up to m, lent

pub prefix_is : (l : List ℕ) (m o limit : ℕ) → m ≤ o → o ≤ limit → limit ≤ length l → m ≡ length (take m l)
prefix_is l m o limit h g k = let n : m ≤ length l = omega arith in sym (length-take-le m l n)
