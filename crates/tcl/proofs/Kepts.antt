-- Bytes that are written as they are, up to the next backslash. Assumes nothing.
use Rattle.std.specs.Prelude.{ℕ, zero, suc, ◌+◌, ◌-◌, ◌≤◌, ◌<◌, ◌≡◌, refl, Bool, true, false, not, ◌&&◌, List, [], ◌∷◌, ◌++◌, eqb, length, take, drop, get_or}
use Rattle.std.proofs.Common.{sym, ap, ◌∙◌, arith, rules, drop-drop, length-drop, length-take-le}
use Rattle.text.specs.Ascii.{Bytes, byte}
use Rattle.text.specs.Lists.{head_is, here}
use Rattle.text.specs.Sames.{no_true}
use Rattle.text.specs.Scan.{before, up_to, Ends}
use Rattle.spans.specs.Area.{Wrote}
use Rattle.spans.specs.Writes.{Written, written_piece}
use Rattle.tcl.specs.Rewrite.{rewrite}
use Rattle.tcl.specs.Join.{joint, joint_by, joined, joined_by, join}

-- what is written for the piece at i
pub byte_is : (s : List ℕ) (i n v : ℕ) → n ≡ joint (drop i s) → v ≡ joined_by n (get_or s i 0) → joined (drop i s) ≡ v ∷ []
byte_is s i n v e g = cc (head_is s i)

-- n bytes without a backslash
pub run_kept : (w : Bytes) (n : ℕ) → n ≤ up_to (byte "\\") w → join w ≡ take n w ++ join (drop n w)
unfolding before rewrite joint_by joined_by
run_kept w zero h = refl
run_kept [] (suc n) h = absurd (omega arith)
run_kept (x ∷ l) (suc n) h = go (eqb x (byte "\\")) refl (λ k. run_kept l n k)
  where
    go : (b : Bool) → eqb x (byte "\\") ≡ b → (n ≤ up_to (byte "\\") l → join l ≡ take n l ++ join (drop n l)) → join (x ∷ l) ≡ x ∷ (take n l ++ join (drop n l))
    go true e r = absurd (omega (arith, rw e at h))
    go false e r = let k : suc n ≤ suc (up_to (byte "\\") l) = rw e at h in rw e (ap (λ (m : Bytes). x ∷ m) (r (omega (arith, k))))

-- ---- the loop: the area was l₀ and is l, the text from i on is left to write, and the next backslash stands at e

module _ (l₀ l s : Bytes) (at i o : ℕ) (w : Written l₀ at (join s) (join (drop i s)) l o) (b : o ≤ at + i) (g : at + length s ≤ length l₀) (h : i < length s) (e : ℕ) (d : Ends (i + up_to (byte "\\") (drop i s)) (length s) e) where
  long : length (take (e - i) (drop i s)) ≡ e - i
  long = let m : e - i ≤ length (drop i s) = omega (arith, d.within, length-drop i s) in length-take-le (e - i) (drop i s) m

  pub run_room : o + length (take (e - i) (drop i s)) ≤ length l
  run_room = omega (arith, long, d.within, w.long)

  module _ (l' : Bytes) (o' : ℕ) (v : Wrote l l' o (take (e - i) (drop i s)) o') where
    pub run_up : o' ≤ at + e
    run_up = omega (arith, long, v.ends, d.is_at)

    pub run_written : Written l₀ at (join s) (join (drop e s)) l' o'
    run_written =
        let m : e - i ≤ up_to (byte "\\") (drop i s) = omega (arith, d.is_at) in
        let q : i + (e - i) ≡ e = omega (arith, d.is_at) in
        let k : join (drop i s) ≡ take (e - i) (drop i s) ++ join (drop e s) = run_kept (drop i s) (e - i) m ∙ rw (drop-drop (e - i) i s, q) in
        written_piece l₀ at (join s) (take (e - i) (drop i s)) (join (drop e s)) l l' o o' (rw k at w) (omega (arith, run_up, d.within)) v

pub ruleset runs = (rules, run_room)

-- ---- a run has a byte

pub run_on : (s : Bytes) (i e : ℕ) (t : Bool) (b : Bool) → i < length s → Ends (i + up_to (byte "\\") (drop i s)) (length s) e → t ≡ (not (eqb (get_or s i 0) (byte "\\")) && b) → t ≡ true → i < e
unfolding before
run_on s i e t b h d g k = go (eqb (get_or s i 0) (byte "\\")) refl (sym g ∙ k)
  where
    go : (x : Bool) → eqb (get_or s i 0) (byte "\\") ≡ x → (not x && b) ≡ true → i < e
    go true q z = absurd (no_true z)
    go false q z = let u : up_to (byte "\\") (drop i s) ≡ suc (up_to (byte "\\") (drop (i + 1) s)) = rw (here s i h, q) in omega (arith, u, d.is_at)
