-- One turn along the parts of an override, and along a path of instance names.
-- Assumes nothing.
use Rattle.std.specs.Prelude.{Option, unwrap_or}
use Rattle.std.specs.List.{position_or_len}
use Rattle.std.proofs.Common.{ltb, ltb-true, ltb-false, length-drop}
use Rattle.std.proofs.Math.Nat.{sub-zero}
use Rattle.std.proofs.lemmas.List.Recursion.{is_position_or_len}
use Rattle.text.specs.Scans.{before_le}
use mathlib.Core.Path.{◌≡◌, refl, ap, ◌∙◌, sym}
use Prim.Native.Nat.{ℕ, suc, ◌+◌, ◌-◌, ◌<◌, ◌≤◌}
use native.Mathlib.Numerals.{add-one}
use native.Mathlib.Omega.{arith}
use mathlib.Core.Bool.{Bool, true, false, cond, not}
use mathlib.Core.List.{List, [], ◌∷◌, map}
use Rattle.std.specs.Prelude.{None, Some}
use lib.ListN.{length, take, drop, get_or, drop_of_length-le}
use lib.Seq.{drop-drop, drop-cons}
use borrow.Author.Rules.{rules}
use Rattle.text.specs.Ascii.{Bytes}
use Rattle.text.specs.Compare.{same}
use Rattle.text.specs.Scan.{before, Ends}
use Rattle.jobindex.specs.Index.{module_row}
use Rattle.jobindex.specs.declared.Span.{Span}
use Rattle.design.specs.Lists.{on_some}
use Rattle.design.specs.Lookup.{module_at}
use Rattle.texts.specs.Scope.{override_parts, without_top}
use Rattle.lines.specs.Cursors.{spanned}
use Rattle.lookup.specs.Rows.{modules, row_is, ModuleSeen, below, at_none, at_more}
use Rattle.search.specs.declared.Way.{Way as Names}
use Rattle.search.specs.Found.{way_from}
use Rattle.scope.specs.declared.PartAt.{PartAt}
use Rattle.scope.specs.Parts.{separates, parts, PartSeen, no_parts, parts_skip, parts_word}

-- ---- scans
module _ (p : ℕ → Bool) where
  before_is : (t : List ℕ) → before p t ≡ position_or_len p t
  unfolding before
  before_is = is_position_or_len (before p) p refl (λ x xs. ap (cond (p x) 0) (omega arith))

  -- the first place that passes p
  abbrev pub FoundAt : List ℕ → Option ℕ → Type 0
  FoundAt t None = before p t ≡ length t
  FoundAt t (Some n) = (n ≡ before p t) × (n < length t)

  -- what `position` found, as `position_from_yields_List` says it
  pub found_at : (t : List ℕ) (r : Option ℕ) → r ≡ cond (ltb (position_or_len p t) (length t)) (Some (position_or_len p t)) None → FoundAt t r
  found_at t r h = rw (h, ← before_is t) (go (ltb (before p t) (length t)) refl)
    where
      go : (q : Bool) → ltb (before p t) (length t) ≡ q → FoundAt t (cond q (Some (before p t)) None)
      go true e = (refl, ltb-true (before p t) (length t) e)
      go false e = omega (arith, ltb-false (before p t) (length t) e, before_le p t)

  position_or_end : (t : List ℕ) (r : Option ℕ) → FoundAt t r → unwrap_or r (length t) ≡ before p t
  position_or_end t None h = sym h
  position_or_end t (Some n) h = h.0

  pub ends_at : (at n : ℕ) (s t : List ℕ) (r : Option ℕ) → at ≤ length s → t ≡ drop at s → n ≡ unwrap_or r (length t) → FoundAt t r → Ends (at + before p (drop at s)) (length s) (at + n)
  ends_at at n s t r l e f g =
      let m : n ≡ before p t = f ∙ position_or_end t r g in
      record { is_at = rw (m, e); within = omega (arith, m, e, ap (before p) e, before_le p (drop at s), length-drop at s) }

-- ---- the next part
abbrev pub joins : ℕ → Bool
joins b = not (separates b)

skip_all : (p : Bytes) → override_parts p ≡ override_parts (drop (before joins p) p)
unfolding before joins
skip_all [] = refl
skip_all (b ∷ p) = go (separates b) refl (skip_all p)
  where
    go : (q : Bool) → separates b ≡ q → override_parts p ≡ override_parts (drop (before joins p) p) → override_parts (b ∷ p) ≡ override_parts (drop (cond (not q) 0 (suc (before joins p))) (b ∷ p))
    go true e f = parts_skip b p e ∙ f
    go false e f = refl

-- behind the separators a part has a byte
begins : (p : Bytes) → before joins p < length p → 0 < before separates (drop (before joins p) p)
unfolding before joins
begins [] h = absurd (omega arith)
begins (b ∷ p) h = go (separates b) refl (λ k. begins p k) h
  where
    go : (q : Bool) → separates b ≡ q → (before joins p < length p → 0 < before separates (drop (before joins p) p)) → cond (not q) 0 (suc (before joins p)) < suc (length p) → 0 < before separates (drop (cond (not q) 0 (suc (before joins p))) (b ∷ p))
    go true e f k = f (omega arith)
    go false e f k = rw e (omega arith)

module _ (over : Bytes) (at : ℕ) (after : Bytes) (ea : after ≡ drop at over) where
  pub part_none : FoundAt joins after None → PartSeen over at None
  part_none h =
      let d : drop (before joins after) after ≡ [] = drop_of_length-le after {i = before joins after} (omega arith) in
      record { says = sym (rw (← ea) (skip_all after ∙ rw d no_parts)); goes = tt }

  module _ (n : ℕ) (found : FoundAt joins after (Some n)) where
    pub part_within : at + n < length over
    part_within = omega (arith, found.1, ap length ea, length-drop at over)

    pub part_here : (e : ℕ) → Ends (at + n + before separates (drop (at + n) over)) (length over) e → PartSeen over at (Some (record { at = (at + n); len = (e - (at + n)); next = e }))
    part_here e ends =
        let d : drop n after ≡ drop (at + n) over = rw ea (drop-drop n at over) in
        let b : 0 < before separates (drop (at + n) over) = rw (← d, found.0) (begins after (omega (arith, found.0, found.1))) in
        let m : before separates (drop (at + n) over) ≡ e - (at + n) = omega (arith, ends.is_at) in
        let z : at + n + (e - (at + n)) ≡ e = omega (arith, ends.is_at) in
        let s : parts over at ≡ parts over (at + n) = rw (← ea, ← d, found.0) (skip_all after) in
        record {
          says = sym (s ∙ (parts_word (drop (at + n) over) b ∙ rw (m, drop-drop (e - (at + n)) (at + n) over, z)));
          goes = (omega (arith, ends.is_at, b), ends.within);
        }

-- ---- without the top's own name
module _ (over top : Bytes) where
  pub top_none : PartSeen over 0 None → parts over 0 ≡ without_top top (override_parts over)
  top_none seen = let e : override_parts over ≡ [] = rw (← seen.says) in rw e

  module _ (r : PartAt) (seen : PartSeen over 0 (Some r)) (w : Bytes) (ew : w ≡ take r.len (drop r.at over)) (b : Bool) (eb : b ≡ same w top) where
    first_is : override_parts over ≡ w ∷ parts over r.next
    first_is = rw (ew, ← seen.says)

    pub top_first : b ≡ true → parts over r.next ≡ without_top top (override_parts over)
    top_first h = rw (first_is, ← eb, h)

    pub top_other : b ≡ false → parts over 0 ≡ without_top top (override_parts over)
    top_other h = rw (first_is, ← eb, h)

pub ruleset tops = (rules, top_none, top_first, top_other)

-- ---- down a path: `names` are still to go
module _ (job : Bytes) (index : List ℕ) (count row : ℕ) (n : Bytes) (ns : List Bytes) (q : Option ℕ) (seen : ModuleSeen job index count (below (modules job index count) (module_row job index row) n) q) where
  down : module_at (modules job index count) (module_row job index row) (n ∷ ns) ≡ on_some (row_is job index q) None λ m. module_at (modules job index count) m ns
  down = at_more (modules job index count) (module_row job index row) n ns ∙ rw (← seen.says)

pub record Along (job : Bytes) (index : List ℕ) (count k : ℕ) (over : Bytes) (at row i : ℕ) : Type 0 where
  pub left : module_at (modules job index count) (module_row job index k) (parts over at) ≡ module_at (modules job index count) (module_row job index row) (parts over i)
  pub there : row < count
  pub few : count ≤ 128

module _ (job : Bytes) (index : List ℕ) (count k : ℕ) (over : Bytes) (at : ℕ) where
  pub along_start : count ≤ 128 → k < count → Along job index count k over at k at
  along_start f h = record { left = refl; there = h; few = f }

  module _ (row i : ℕ) (inv : Along job index count k over at row i) where
    pub along_end : PartSeen over i None → ModuleSeen job index count (module_at (modules job index count) (module_row job index k) (parts over at)) (Some row)
    along_end seen =
        let e : parts over i ≡ [] = rw (← seen.says) in
        record { says = sym (inv.left ∙ rw e (at_none (modules job index count) (module_row job index row))); within = inv.there }

    module _ (r : PartAt) (seen : PartSeen over i (Some r)) where
      pub along_less : length over - r.next < length over - i
      along_less = omega (arith, seen.goes.0, seen.goes.1)

      module _ (w : Bytes) (ew : w ≡ take r.len (drop r.at over)) where
        names_are : parts over i ≡ w ∷ parts over r.next
        names_are = rw (ew, ← seen.says)

        abbrev BelowIs : Option ℕ → Type 0
        BelowIs = ModuleSeen job index count (below (modules job index count) (module_row job index row) w)

        pub along_none : BelowIs None → ModuleSeen job index count (module_at (modules job index count) (module_row job index k) (parts over at)) None
        along_none found = record { says = sym (inv.left ∙ rw names_are (down job index count row w (parts over r.next) None found)); within = tt }

        pub along_on : (q : ℕ) → BelowIs (Some q) → Along job index count k over at q r.next
        along_on q found =
            record {
              left = inv.left ∙ rw names_are (down job index count row w (parts over r.next) (Some q) found);
              there = found.within;
              few = inv.few;
            }

pub ruleset alongs = (rules, along_start, along_end, along_less, along_none, along_on)

-- ---- down the way of a type search: the names of `names` from i on are still to go
pub record Way (job : Bytes) (index : List ℕ) (count k : ℕ) (names : List Span) (row i : ℕ) : Type 0 where
  pub left : module_at (modules job index count) (module_row job index k) (map (spanned job) names) ≡ module_at (modules job index count) (module_row job index row) (map (spanned job) (drop i names))
  pub there : row < count
  pub few : count ≤ 128

module _ (job : Bytes) (index : List ℕ) (count k : ℕ) (names : List Span) where
  pub way_start : count ≤ 128 → k < count → Way job index count k names k 0
  way_start c h = record { left = refl; there = h; few = c }

  module _ (row i : ℕ) (inv : Way job index count k names row i) where
    pub way_end : length names ≤ i → (f : Names) → names ≡ take f.count f.names → ModuleSeen job index count (module_at (modules job index count) (module_row job index k) (way_from job 0 f)) (Some row)
    way_end h f e =
        let d : drop i names ≡ [] = drop_of_length-le names {i = i} h in
        record { says = sym (rw (sub-zero, ← e) (inv.left ∙ rw d (at_none (modules job index count) (module_row job index row)))); within = inv.there }

    module _ (h : i < length names) (d : Span) (w : Bytes) (ew : w ≡ spanned job (get_or names i d)) where
      way_names : map (spanned job) (drop i names) ≡ w ∷ map (spanned job) (drop (i + 1) names)
      way_names = ap (λ (l : List Span). map (spanned job) l) (drop-cons names i d h) ∙ rw (ew, add-one i)

      abbrev WayBelow : Option ℕ → Type 0
      WayBelow = ModuleSeen job index count (below (modules job index count) (module_row job index row) w)

      pub way_none : WayBelow None → (f : Names) → names ≡ take f.count f.names → ModuleSeen job index count (module_at (modules job index count) (module_row job index k) (way_from job 0 f)) None
      way_none found f e = record { says = sym (rw (sub-zero, ← e) (inv.left ∙ rw way_names (down job index count row w (map (spanned job) (drop (i + 1) names)) None found))); within = tt }

      pub way_on : (q : ℕ) → WayBelow (Some q) → Way job index count k names q (i + 1)
      way_on q found =
          record {
            left = inv.left ∙ rw way_names (down job index count row w (map (spanned job) (drop (i + 1) names)) (Some q) found);
            there = found.within;
            few = inv.few;
          }

pub ruleset way_turns = (rules, way_start, way_end, way_none, way_on)
