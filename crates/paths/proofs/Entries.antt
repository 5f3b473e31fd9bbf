-- Names counted, and retained entries compared with a path. Assumes nothing.
use Rattle.std.specs.Prelude.{Option, Some, None}
use Prim.Native.Nat.{ℕ, suc, ◌+◌, ◌-◌, ◌<◌, ◌≤◌, ◌^◌}
use mathlib.Core.Path.{◌≡◌, refl, sym, ap, ◌∙◌}
use mathlib.Core.Bool.{Bool, true, false, not, ◌&&◌, ◌||◌}
use mathlib.Core.List.{List, [], ◌∷◌, ◌++◌, map}
use native.Mathlib.Omega.{arith}
use native.Mathlib.Nat.{sub-zero}
use lib.Dec.{eqb}
use lib.ListN.{length, length-append}
use borrow.Author.Rules.{rules}
use borrow.Author.Tests.{eq-eqb, ne_eqb, eqb-true}
use Rattle.text.specs.Ascii.{Bytes}
use Rattle.text.specs.Compare.{same}
use Rattle.text.specs.Scan.{any}
use Rattle.text.specs.Sames.{no_true, both, same_turned}
use Rattle.text.specs.Classes.{dot_of}
use Rattle.text.specs.Lists.{no_bytes}
use Rattle.out.specs.Bytewise.{dotted as Bytewise·dotted}
use Rattle.names.specs.Name.{name_of, step_of}
use Rattle.names.specs.Laws.{dotted_map, dot_slash, dot_other}
use Rattle.names.specs.declared.name.Name.{Name}
use Rattle.nametable.specs.Table.{row_name, names_from, table_names, names_next, names_none}
use Rattle.design.specs.Lists.{is_in, those}
use Rattle.design.specs.Paths.{dotted}
use Rattle.walk.specs.Walk.{retained_paths}
use Rattle.walk.proofs.Retained.{length_dotted}
use Rattle.paths.specs.Pieces.{entries_below}
use Rattle.paths.specs.Sizes.{name_short}

-- ---- a path among the entries of a table

-- entries that are empty are not the path that is not
filled_in : (p : Bytes) (es : List Bytes) → (p ≡ [] → ⊥) → is_in p (map dotted (those (λ e. not (same e [])) es)) ≡ is_in p (map dotted es)
unfolding any those same
filled_in p [] h = refl
filled_in p ([] ∷ es) h = filled_in p es h ∙ go p h
  where
    go : (p : Bytes) → (p ≡ [] → ⊥) → is_in p (map dotted es) ≡ same p [] || is_in p (map dotted es)
    go [] h = absurd (h refl)
    go (x ∷ p) h = refl
filled_in p ((x ∷ e) ∷ es) h = rw (filled_in p es h)

-- and none of the others is the empty path
filled_out : (es : List Bytes) → is_in [] (map dotted (those (λ e. not (same e [])) es)) ≡ false
unfolding any those same
filled_out [] = refl
filled_out ([] ∷ es) = filled_out es
filled_out ((x ∷ e) ∷ es) = filled_out es

-- t is the answer: the path is one of the entries left, or not
pub record Among (mem path : Bytes) (table : List ℕ) (n : ℕ) (t : Bool) (k : ℕ) : Type 0 where
  pub keeps : is_in path (map dotted (names_from mem table k (n - k))) ≡ t
  pub few : n ≤ 65536

module _ (mem : Bytes) (table : List ℕ) (n : ℕ) (below : Bool) (e : Name) (elen : ℕ) (tail : Bytes) (l : elen ≡ length (name_of mem e)) where
  abbrev path : Bytes
  path = dotted (name_of mem e) ++ tail

  pub among_empty : below && (eqb elen 0 && eqb (length tail) 0) ≡ true → false ≡ is_in path (retained_paths [] (entries_below below (table_names mem table n)))
  among_empty h =
      let b = both below (eqb elen 0 && eqb (length tail) 0) h in
      let c = both (eqb elen 0) (eqb (length tail) 0) b.1 in
      let z : path ≡ [] = no_bytes path (omega (arith, length-append (dotted (name_of mem e)) tail, length_dotted (name_of mem e), l, eqb-true elen 0 c.0, eqb-true (length tail) 0 c.1)) in
      sym (rw (z, b.0) (filled_out (table_names mem table n)))

  pub among_start : n ≤ 65536 → below && (eqb elen 0 && eqb (length tail) 0) ≡ false → Among mem path table n (is_in path (retained_paths [] (entries_below below (table_names mem table n)))) 0
  among_start few h = record { keeps = rw (sub-zero n) (go below refl); few = few }
    where
      not_empty : below ≡ true → path ≡ [] → ⊥
      not_empty b z =
          let s : length (dotted (name_of mem e)) + length tail ≡ 0 = sym (length-append (dotted (name_of mem e)) tail) ∙ ap length z in
          let i : elen ≡ 0 = omega (arith, l, length_dotted (name_of mem e)) in
          let j : length tail ≡ 0 = omega arith in
          no_true (sym (rw (b, eq-eqb elen 0 i, eq-eqb (length tail) 0 j) at h))

      go : (b : Bool) → below ≡ b → is_in path (map dotted (names_from mem table 0 n)) ≡ is_in path (retained_paths [] (entries_below b (table_names mem table n)))
      go false e = refl
      go true e = sym (filled_in path (table_names mem table n) (not_empty e))

module _ (mem : Bytes) (table : List ℕ) (n : ℕ) (e : Name) (tail : Bytes) (t : Bool) (k : ℕ) (inv : Among mem (dotted (name_of mem e) ++ tail) table n t k) where
  pub among_row : k < n → k ≤ 65536
  among_row h = omega (arith, inv.few)

  pub among_none : n ≤ k → false ≡ t
  unfolding any
  among_none h =
      let z : n - k ≡ 0 = omega arith in
      rw (z, names_none mem table k) at inv.keeps

  module _ (h : k < n) (y : Name) (ey : y ≡ row_name table k) (b : Bool) (eb : b ≡ same (dotted (name_of mem e) ++ tail) (dotted (name_of mem y))) where
    first : b || is_in (dotted (name_of mem e) ++ tail) (map dotted (names_from mem table (k + 1) (n - (k + 1)))) ≡ t
    unfolding any
    first =
        let z : n - k ≡ suc (n - (k + 1)) = omega arith in
        rw (eb, ey) (rw (z, names_next mem table k (n - (k + 1))) at inv.keeps)

    pub among_here : b ≡ true → true ≡ t
    among_here g = rw g at first

    pub among_on : b ≡ false → Among mem (dotted (name_of mem e) ++ tail) table n t (k + 1)
    among_on g = record { keeps = rw g at first; few = inv.few }

pub ruleset amongs = (rules, among_empty, among_start, among_row, among_none, among_here, among_on)
