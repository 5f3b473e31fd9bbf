-- A written word from a place on: laws as the needs ask them. Assumes nothing.
use Prim.Native.Nat.{◌+◌, ◌<◌, ◌≤◌, ℕ}
use mathlib.Core.Bool.{Bool, ◌&&◌, cond, false, true}
use mathlib.Core.List.{List, [], ◌∷◌}
use mathlib.Core.Path.{◌∙◌, ◌≡◌, ap, refl, sym}
use native.Mathlib.Omega.{arith}
use native.Mathlib.Nat.{add-zero, zero-add}
use lib.Seq.{drop-drop, get_or-drop}
use lib.ListN.{drop, drop_of_length-le, get_or, length, length-drop}
use lib.Dec.{eqb}
use borrow.Author.Tests.{eq-eqb, ne_eqb}
use borrow.Author.Rules.{rules}
use Rattle.substitution.specs.declared.written.Run.{Run}
use Rattle.substitution.specs.Written.{IsRun, dropped_by, written}
use Rattle.tcl.specs.Substitution.{escape, escaped, no_variable}
use Rattle.text.specs.Lists.{head_is, here}
use Rattle.text.specs.Scans.{before_le}
use Rattle.text.specs.Sames.{both}
use Rattle.tcl.specs.Rewrite.{rewrite}
use Rattle.tcl.specs.Rewrites.{rewrite_step}
use Rattle.text.specs.Classes.{is_variable}
use Rattle.text.specs.Scan.{before}
use Rattle.text.specs.Ascii.{byte}

pub written_end : (q : Bool) (body : List ℕ) (i : ℕ) → length body ≤ i → written q (drop i body) ≡ []
unfolding written rewrite
written_end true body i h = rw (drop_of_length-le body {i = i} h)
written_end false body i h = drop_of_length-le body {i = i} h

-- the next byte stands e further on
pub written_step : (q : Bool) (body : List ℕ) (i e : ℕ) → i < length body → e ≡ dropped_by q (drop i body) → written q (drop i body) ≡ get_or body (i + e) 0 ∷ written q (drop (i + 1 + e) body)
unfolding written dropped_by
written_step true body i e h g =
    rewrite_step escape escaped body i e h g ∙ rw (← g, get_or-drop i body e 0)
written_step false body i e h g =
    rw (g, add-zero, add-zero) (here body i h)

-- ---- which bytes are dropped

escape_last : (s : List ℕ) → length s ≤ 1 → 0 ≡ escape s
unfolding escape
escape_last [] h = refl
escape_last (x ∷ []) h = refl
escape_last (x ∷ y ∷ s) h = absurd (omega arith)

escape_more : (s : List ℕ) → 1 < length s → escape s ≡ cond (eqb (get_or s 0 0) (byte "\\")) 1 0
unfolding escape
escape_more [] h = absurd (omega arith)
escape_more (x ∷ []) h = absurd (omega arith)
escape_more (x ∷ y ∷ s) h = refl

module _ (q : Bool) (s : List ℕ) (i : ℕ) where
  pub drops_last : length s ≤ i + 1 → 0 ≡ dropped_by q (drop i s)
  unfolding dropped_by
  drops_last h = go q
    where
      l : length (drop i s) ≤ 1
      l = omega (arith, length-drop i s)

      go : (t : Bool) → 0 ≡ cond t (escape (drop i s)) 0
      go true = escape_last (drop i s) l
      go false = refl

  module _ (h : i + 1 < length s) where
    more : 1 < length (drop i s)
    more = omega (arith, length-drop i s)

    pub drops_one : q && eqb (get_or s i 0) (byte "\\") ≡ true → 1 ≡ dropped_by q (drop i s)
    unfolding dropped_by
    drops_one g =
        let b = both q (eqb (get_or s i 0) (byte "\\")) g in
        rw (b.0, escape_more (drop i s) more, head_is s i, b.1)

    pub drops_none : q && eqb (get_or s i 0) (byte "\\") ≡ false → 0 ≡ dropped_by q (drop i s)
    unfolding dropped_by
    drops_none g = go q g
      where
        go : (t : Bool) → t && eqb (get_or s i 0) (byte "\\") ≡ false → 0 ≡ cond t (escape (drop i s)) 0
        go true e = rw (escape_more (drop i s) more, head_is s i, e)
        go false e = refl

pub ruleset drops = (rules, drops_last, drops_one, drops_none)

-- ---- the byte x, where it is the next one

abbrev pub run : ℕ → ℕ → Run
run n e = record { size = n; end = e }

module _ (q : Bool) (s : List ℕ) (at x : ℕ) where
  pub mark_past : length s ≤ at → at ≤ length s → 1 ≤ x → IsRun q s at (cond (eqb (get_or (written q (drop at s)) 0 0) x) 1 0) (run 0 at)
  mark_past h l g =
      let z : 0 ≡ x → ⊥ = λ e. absurd (omega arith) in
      let w : written q (drop at s) ≡ [] = written_end q s at h in
      record { sized = rw (w, ne_eqb 0 x z); rest = rw (w, ne_eqb 0 x z); fits = rw (w, ne_eqb 0 x z) (omega arith); up = omega arith; inside = l }

  module _ (e : ℕ) (d : e ≡ dropped_by q (drop at s)) (h : at < length s) (l : at + e < length s) where
    pub mark_is : get_or s (at + e) 0 ≡ x → IsRun q s at (cond (eqb (get_or (written q (drop at s)) 0 0) x) 1 0) (run 1 (at + 1 + e))
    mark_is g =
        let w : written q (drop at s) ≡ x ∷ written q (drop (at + 1 + e) s) = written_step q s at e h d ∙ rw g in
        record { sized = rw (w, eq-eqb x x refl); rest = rw (w, eq-eqb x x refl); fits = rw (w, eq-eqb x x refl) (omega arith); up = omega arith; inside = omega arith }

    pub mark_other : (get_or s (at + e) 0 ≡ x → ⊥) → IsRun q s at (cond (eqb (get_or (written q (drop at s)) 0 0) x) 1 0) (run 0 at)
    mark_other g =
        let w : written q (drop at s) ≡ get_or s (at + e) 0 ∷ written q (drop (at + 1 + e) s) = written_step q s at e h d in
        let z : eqb (get_or (written q (drop at s)) 0 0) x ≡ false = rw w (ne_eqb (get_or s (at + e) 0) x g) in
        record { sized = rw z; rest = rw z; fits = rw z (omega arith); up = omega arith; inside = omega arith }

pub ruleset marks = (rules, mark_past, mark_is, mark_other)

-- ---- a name: what is left of it at i is the rest of the answer

pub record Naming (q : Bool) (s : List ℕ) (at n i : ℕ) : Type 0 where
  pub keeps : before no_variable (written q (drop at s)) ≡ n + before no_variable (written q (drop i s))
  pub rest : written q (drop i s) ≡ drop n (written q (drop at s))
  pub up : at + n ≤ i
  pub inside : i ≤ length s

pub naming_start : (q : Bool) (s : List ℕ) (at : ℕ) → at ≤ length s → Naming q s at 0 at
naming_start q s at h = record { keeps = rw zero-add; rest = refl; up = omega arith; inside = h }

module _ (q : Bool) (s : List ℕ) (at n i : ℕ) (inv : Naming q s at n i) where
  ended : before no_variable (written q (drop i s)) ≡ 0 → IsRun q s at (before no_variable (written q (drop at s))) (run n i)
  ended z =
      let k : n ≡ before no_variable (written q (drop at s)) = omega (arith, inv.keeps, z) in
      record { sized = k; rest = inv.rest ∙ rw k; fits = before_le no_variable (written q (drop at s)); up = inv.up; inside = inv.inside }

  pub naming_end : length s ≤ i → IsRun q s at (before no_variable (written q (drop at s))) (run n i)
  unfolding before
  naming_end h = ended (rw (written_end q s i h))

  module _ (e : ℕ) (d : e ≡ dropped_by q (drop i s)) (h : i < length s) (l : i + e < length s) (t : Bool) (v : t ≡ is_variable (get_or s (i + e) 0)) where
    pub naming_stop : t ≡ false → IsRun q s at (before no_variable (written q (drop at s))) (run n i)
    unfolding before
    naming_stop g = ended (rw (written_step q s i e h d, ← v, g))

    pub naming_step : t ≡ true → Naming q s at (n + 1) (i + 1 + e)
    unfolding before
    naming_step g =
        let w : written q (drop i s) ≡ get_or s (i + e) 0 ∷ written q (drop (i + 1 + e) s) = written_step q s i e h d in
        let c : drop n (written q (drop at s)) ≡ get_or s (i + e) 0 ∷ written q (drop (i + 1 + e) s) = sym inv.rest ∙ w in
        record {
          keeps = inv.keeps ∙ rw (w, ← v, g) (omega arith);
          rest = sym (sym (drop-drop 1 n (written q (drop at s))) ∙ ap (drop 1) c);
          up = omega (arith, inv.up);
          inside = omega arith;
        }

pub ruleset namings = (rules, naming_end, naming_stop, naming_step)
