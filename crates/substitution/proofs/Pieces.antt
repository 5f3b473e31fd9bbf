-- The pieces of a written word: laws as the needs ask them. Assumes nothing.
use Prim.Native.Nat.{◌+◌, ◌-◌, ◌<◌, ◌≤◌, suc, ℕ}
use mathlib.Core.Path.{◌∙◌, ◌≡◌, ap, refl, sym}
use mathlib.Core.List.{List, ◌∷◌}
use mathlib.Core.Bool.{Bool, ◌&&◌, cond, false, true}
use native.Mathlib.Omega.{arith}
use native.Mathlib.Nat.{add-zero}
use lib.ListN.{drop, get_or, length, length-drop}
use lib.Seq.{drop-drop, get_or-drop}
use lib.Dec.{eqb}
use borrow.Author.Tests.{ne_eqb}
use borrow.Author.Rules.{rules}
use Rattle.substitution.specs.declared.piece.Piece.{Piece}
use Rattle.substitution.specs.declared.written.Run.{Run}
use Rattle.tcl.specs.Substitution.{closes_by, no_variable, opens_by, piece_more, piece_name}
use Rattle.text.specs.Scan.{before}
use Rattle.substitution.specs.Piece.{IsPiece}
use Rattle.substitution.specs.Written.{IsRun, dropped_by, written}
use Rattle.text.specs.Ascii.{byte}
use Rattle.substitution.proofs.Runs.{run, written_step}

abbrev pub piece : ℕ → ℕ → ℕ → ℕ → Piece
piece f n s e = record { from = f; name = n; size = s; end = e }

-- the brace that closes, where one was opened
module _ (q : Bool) (s : List ℕ) (at o : ℕ) where
  pub closing_is : (r : Run) → IsRun q s at (cond (eqb (get_or (written q (drop at s)) 0 0) (byte "}")) 1 0) r → o ≡ 1 → IsRun q s at (closes_by o (get_or (written q (drop at s)) 0 0)) r
  unfolding closes_by
  closing_is r h e = rw (e, and_true) h
    where
      and_true : (b : Bool) → b && true ≡ b
      and_true true = refl
      and_true false = refl

  pub closing_none : at ≤ length s → (o ≡ 1 → ⊥) → IsRun q s at (closes_by o (get_or (written q (drop at s)) 0 0)) (run 0 at)
  unfolding closes_by
  closing_none h e =
      let z : ◌≡◌ {A = ℕ} (cond (eqb (get_or (written q (drop at s)) 0 0) (byte "}") && eqb o 1) 1 0) 0 = rw (ne_eqb o 1 e) (none (eqb (get_or (written q (drop at s)) 0 0) (byte "}"))) in
      record { sized = sym z; rest = rw z; fits = rw z (omega arith); up = omega arith; inside = h }
    where
      none : (b : Bool) → ◌≡◌ {A = ℕ} (cond (b && false) 1 0) 0
      none true = refl
      none false = refl

pub ruleset closings = (rules, closing_is, closing_none)

-- behind the `$`
module _ (q : Bool) (s : List ℕ) (at : ℕ) (o n c : Run) (a : IsRun q s at (cond (eqb (get_or (written q (drop at s)) 0 0) (byte "{")) 1 0) o)
    (b : IsRun q s o.end (before no_variable (written q (drop o.end s))) n) (d : IsRun q s n.end (closes_by o.size (get_or (written q (drop n.end s)) 0 0)) c) where
  t : List ℕ
  t = written q (drop at s)

  named : before no_variable (drop o.size t) ≡ n.size
  unfolding t
  named = sym (b.sized ∙ rw (a.rest, a.sized))

  behind : written q (drop n.end s) ≡ drop (o.size + n.size) t
  unfolding t
  behind = b.rest ∙ rw (← b.sized, a.rest, ← a.sized, drop-drop)

  closed : closes_by o.size (get_or t (o.size + n.size) 0) ≡ c.size
  unfolding t
  closed = sym (d.sized ∙ rw (behind, get_or-drop, add-zero))

  more : piece_more (byte "$" ∷ t) ≡ o.size + n.size + c.size
  unfolding piece_more opens_by t
  more =
      let u : 1 + o.size ≡ suc o.size = omega arith in
      let v : suc o.size + n.size ≡ suc (o.size + n.size) = omega arith in
      rw (← a.sized, u, named, v, closed)

  pub reference_is : IsPiece q s at (byte "$" ∷ written q (drop at s)) (piece o.end n.size (1 + o.size + n.size + c.size) c.end)
  unfolding piece_name opens_by t
  reference_is =
      let u : 1 + o.size ≡ suc o.size = omega arith in
      let w : 1 + (o.size + n.size + c.size) ≡ suc (o.size + n.size + c.size) = omega arith in
      let l : length (written q (drop n.end s)) ≡ length t - (o.size + n.size) = ap length behind ∙ length-drop (o.size + n.size) t in
      let g : written q (drop o.end s) ≡ drop o.size t = a.rest ∙ rw (← a.sized) in
      let f : n.size ≤ length t - o.size = omega (arith, b.fits, b.sized, ap length g, length-drop o.size t) in
      record {
        named = rw (← a.sized, u, named, a.rest, ← a.sized);
        sized = rw more (omega arith);
        rest = rw (more, w) (d.rest ∙ rw (← d.sized, behind, drop-drop));
        fits = omega (arith, a.fits, a.sized, f, d.fits, d.sized, l);
        up = omega (arith, a.up, b.up, d.up);
        inside = d.inside;
      }

-- a byte that is no `$`, and one that is
module _ (q : Bool) (s : List ℕ) (i e : ℕ) (d : e ≡ dropped_by q (drop i s)) (h : i < length s) (l : i + e < length s) where
  pub piece_other : (get_or s (i + e) 0 ≡ byte "$" → ⊥) → IsPiece q s (i + 1) (written q (drop i s)) (piece (i + 1 + e) 0 1 (i + 1 + e))
  unfolding piece_more piece_name
  piece_other g =
      let w : written q (drop i s) ≡ get_or s (i + e) 0 ∷ written q (drop (i + 1 + e) s) = written_step q s i e h d in
      record {
        named = rw (w, ne_eqb (get_or s (i + e) 0) (byte "$") g);
        sized = rw (w, ne_eqb (get_or s (i + e) 0) (byte "$") g);
        rest = rw (w, ne_eqb (get_or s (i + e) 0) (byte "$") g);
        fits = rw w (omega arith);
        up = omega arith;
        inside = omega arith;
      }

  pub piece_reference : (p : Piece) → IsPiece q s (i + 1 + e) (byte "$" ∷ written q (drop (i + 1 + e) s)) p → get_or s (i + e) 0 ≡ byte "$" → IsPiece q s (i + 1) (written q (drop i s)) p
  piece_reference p k g =
      let w : written q (drop i s) ≡ byte "$" ∷ written q (drop (i + 1 + e) s) = written_step q s i e h d ∙ rw g in
      rw w (record { named = k.named; sized = k.sized; rest = k.rest; fits = k.fits; up = omega (arith, k.up); inside = k.inside })

pub ruleset pieces = (rules, piece_other, piece_reference)
