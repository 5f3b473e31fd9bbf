-- Marks set one after the other, and asked for a path. Assumes nothing.
use Prim.Native.Nat.{ℕ, ◌+◌, ◌-◌, ◌%◌, ◌≤◌, ◌<◌, ◌^◌}
use mathlib.Core.Path.{◌≡◌, refl, sym, ap, ◌∙◌}
use mathlib.Core.Bool.{Bool, true, false, not}
use mathlib.Core.Logic.{⊎_elim}
use mathlib.Core.List.Memᴰ.{append_cases}
use mathlib.Core.List.Memᴰ.{eq_of_singleton as eq-single}
use mathlib.Core.List.{List, [], ◌∷◌, ◌++◌, map, Memᴰ as Mem}
use native.Mathlib.Omega.{arith}
use native.Mathlib.Numerals.{add-one}
use lib.ListN.{length, set, get_or, length-set}
use lib.Seq.{get_or-set_same, get_or-set_other}
use borrow.Author.Rules.{rules}
use Rattle.text.specs.Ascii.{Bytes}
use Rattle.text.specs.Compare.{same}
use Rattle.text.specs.Scan.{any}
use Rattle.names.specs.Name.{name_of}
use Rattle.names.specs.declared.name.Name.{Name}
use Rattle.nametable.specs.Table.{row_name, names_from, table_names, names_last, names_none}
use Rattle.design.specs.Lists.{is_in}
use Rattle.design.specs.Laws.{is_in_out, out_is_in, those_mem}
use Rattle.design.specs.Paths.{dotted}
use Rattle.walk.specs.Walk.{retained_paths}
use Rattle.walk.proofs.Retained.{paths_of_lem}
use Rattle.paths.specs.Pieces.{entries_below}
use Rattle.pathnumber.specs.Number.{number, number_on}
use Rattle.corrupt.specs.Marked.{mark_count, mark_place, Marked}

-- ---- set

pub marked_none : (marks : Bytes) → Marked marks []
unfolding any
marked_none marks = record { says = λ p z. refl }

pub marked_empty : (mem : Bytes) (table : List ℕ) (n : ℕ) (marks : Bytes) → n ≡ 0 → Marked marks (table_names mem table n)
marked_empty mem table n marks h = rw (h, names_none mem table 0) (marked_none marks)

pub ruleset empties = (rules, marked_empty)

map_append : {A B : Type 0} (f : A → B) (xs ys : List A) → map f (xs ++ ys) ≡ map f xs ++ map f ys
map_append f [] ys = refl
map_append f (x ∷ xs) ys = ap (λ l. f x ∷ l) (map_append f xs ys)

module _ (marks : Bytes) (es : List Bytes) (y : Bytes) (old : Marked marks es) (long : mark_count ≤ length marks) where
  place_low : mark_place (dotted y) < mark_count
  place_low = omega arith

  set_here : get_or (set marks (mark_place (dotted y)) 1) (mark_place (dotted y)) 0 ≡ 1
  set_here = get_or-set_same marks (mark_place (dotted y)) 1 0 (omega (arith, place_low))

  module _ (p : Bytes) (z : get_or (set marks (mark_place (dotted y)) 1) (mark_place p) 0 ≡ 0) where
    apart : mark_place p ≡ mark_place (dotted y) → ⊥
    apart e = let o : ◌≡◌ {A = ℕ} 1 0 = sym set_here ∙ ap (λ i. get_or (set marks (mark_place (dotted y)) 1) i 0) (sym e) ∙ z in omega (arith, o)

    unset : get_or marks (mark_place p) 0 ≡ 0
    unset = sym (get_or-set_other marks (mark_place (dotted y)) (mark_place p) 1 0 apart) ∙ z

    out : is_in p (map dotted es ++ (dotted y ∷ [])) ≡ false
    out = out_is_in p (map dotted es ++ (dotted y ∷ [])) (λ m. ⊎_elim (is_in_out p (map dotted es) (old.says p unset)) (λ k. apart (ap mark_place (eq-single k))) (append_cases (map dotted es) m))

  pub marked_on : Marked (set marks (mark_place (dotted y)) 1) (es ++ (y ∷ []))
  marked_on = record { says = λ p z. ap (is_in p) (map_append dotted es (y ∷ [])) ∙ out p z }

-- the first k entries are marked
pub record Marks (mem : Bytes) (table : List ℕ) (n : ℕ) (marks : Bytes) (k : ℕ) : Type 0 where
  pub marked : Marked marks (table_names mem table k)
  pub long : mark_count ≤ length marks
  pub few : n ≤ 65536
  pub low : k ≤ n

pub marks_start : (mem : Bytes) (table : List ℕ) (n : ℕ) (marks : Bytes) → n ≤ 65536 → mark_count ≤ length marks → Marks mem table n marks 0
marks_start mem table n marks f l = record { marked = rw (names_none mem table 0) (marked_none marks); long = l; few = f; low = omega arith }

module _ (mem : Bytes) (table : List ℕ) (n : ℕ) (marks : Bytes) (k : ℕ) (inv : Marks mem table n marks k) where
  pub marks_end : n ≤ k → Marked marks (table_names mem table n)
  marks_end h = let z : n ≡ k = omega (arith, inv.low) in rw z inv.marked

  module _ (h : k < n) where
    pub marks_row : k ≤ 65536
    marks_row = omega (arith, inv.few)

    pub marks_fits : k + 1 < 2 ^ 64
    marks_fits = omega (arith, inv.few)

    pub marks_less : n - (k + 1) < n - k
    marks_less = omega arith

    module _ (y : Name) (ey : y ≡ row_name table k) (x : ℕ) (ex : x ≡ number 0 (dotted (name_of mem y))) where
      pub marks_room : x % 32768 < length marks
      marks_room = omega (arith, inv.long)

      pub marks_next : Marks mem table n (set marks (x % 32768) 1) (k + 1)
      marks_next =
          let o : 0 + k ≡ k = omega arith in
          let z : table_names mem table (k + 1) ≡ table_names mem table k ++ (name_of mem y ∷ []) =
          ap (table_names mem table) (add-one k)
          ∙ names_last mem table 0 k
          ∙ ap (λ (j : ℕ). names_from mem table 0 k ++ (name_of mem (row_name table j) ∷ [])) o
          ∙ ap (λ (v : Name). names_from mem table 0 k ++ (name_of mem v ∷ [])) (sym ey) in
          record {
            marked = rw (z, ex) (marked_on marks (table_names mem table k) (name_of mem y) inv.marked inv.long);
            long = omega (arith, inv.long, length-set marks (x % 32768) 1);
            few = inv.few;
            low = omega arith;
          }

pub ruleset marking = (rules, marks_start, marks_end, marks_row, marks_fits, marks_less, marks_room, marks_next)

-- ---- asked

below_mem : (below : Bool) (es : List Bytes) (e : Bytes) → Mem e (entries_below below es) → Mem e es
below_mem true es e m = (those_mem (λ e. not (same e [])) es m).0
below_mem false es e m = m

pub mark_unset : (mem : Bytes) (table : List ℕ) (n : ℕ) (below : Bool) (e : Name) (h : ℕ) (tail marks : Bytes) → h ≡ number 0 (dotted (name_of mem e)) → Marked marks (table_names mem table n)
    → (x : ℕ) → x ≡ number h tail → (b : ℕ) → b ≡ get_or marks (x % 32768) 0 → b ≡ 0 → false ≡ is_in (dotted (name_of mem e) ++ tail) (retained_paths [] (entries_below below (table_names mem table n)))
mark_unset mem table n below e h tail marks eh m x ex b eb z =
    let path = dotted (name_of mem e) ++ tail in
    let names = table_names mem table n in
    let place : x ≡ number 0 path = ex ∙ rw eh (sym (number_on 0 (dotted (name_of mem e)) tail)) in
    let unset : get_or marks (mark_place path) 0 ≡ 0 = rw (← place) (sym eb ∙ z) in
    sym (out_is_in path (retained_paths [] (entries_below below names)) (λ k. is_in_out path (map dotted names) (m.says path unset) (paths_of_lem [] (entries_below below names) names (below_mem below names) path k)))
