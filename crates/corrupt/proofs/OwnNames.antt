-- One module: the dot behind a path, and the names that the module loses itself, one after the other.
-- Assumes nothing.
use Prim.Native.Nat.{ℕ, ◌+◌, ◌≤◌, ◌<◌, ◌^◌}
use mathlib.Core.Path.{◌≡◌, refl, sym, ap, ◌∙◌}
use Rattle.std.specs.Prelude.{Result, Ok, IsErrAnd}
use mathlib.Core.List.{List, [], ◌∷◌, ◌++◌, map, append-nil}
use native.Mathlib.Omega.{arith}
use native.Mathlib.Nat.{add-zero}
use native.Mathlib.Numerals.{add-one}
use lib.ListN.{length, take, drop, set, length-take, length-drop, length-set, drop_of_length-le}
use lib.Seq.{take-suc-set}
use borrow.Author.Rules.{rules}
use borrow.Author.Tests.{eq-eqb, ne_eqb}
use Rattle.text.specs.Ascii.{Bytes, byte}
use Rattle.jobindex.specs.Index.{num as Index·num}
use Rattle.jobindex.specs.Rows.{rows_length, rows_here}
use Rattle.names.specs.Name.{name_of}
use Rattle.names.specs.declared.name.Name.{Name}
use Rattle.design.specs.Lists.{add_new, add_all}
use Rattle.design.specs.Paths.{dotted}
use Rattle.paths.specs.Pieces.{Sized}
use Rattle.pathnumber.specs.Number.{number, number_on}
use Rattle.listing.specs.declared.TooMany.{TooMany}
use Rattle.listing.specs.declared.Walk.{Walk}
use Rattle.listing.specs.Listing.{paths_of, Within, Ready, Listed, Answer}
use Rattle.listing.specs.Turns.{Turn, turn_end, turn_stop, turn_next, add_one_path}
use Rattle.modtable.specs.Table.{names_at, name_place, name_in, names_of}
use Rattle.corrupt.specs.Corrupt.{OwnGiven, Stemmed}

-- ---- the dot

module _ (elen t : ℕ) (tail : Bytes) where
  pub stem_none : elen + t ≡ 0 → Stemmed elen t tail tail t
  stem_none h = record { place = rw (eq-eqb (elen + t) 0 h) (sym (add-zero t)); front = rw (eq-eqb (elen + t) 0 h) (sym (append-nil (take t tail))); kept = refl }

  pub stem_dot : (elen + t ≡ 0 → ⊥) → t < length tail → Stemmed elen t tail (set tail t (byte ".")) (t + 1)
  stem_dot h l =
      record {
        place = rw (ne_eqb (elen + t) 0 h) refl;
        front = rw (ne_eqb (elen + t) 0 h) (ap (λ n. take n (set tail t (byte "."))) (add-one t) ∙ take-suc-set tail t (byte ".") l);
        kept = length-set tail t (byte ".");
      }

pub ruleset stems = (rules, stem_none, stem_dot)

-- ---- the names of a module

part_short : (job : Bytes) (table : List ℕ) (k i : ℕ) → length (name_in job table k i) ≤ length job
part_short job table k i = omega (arith, length-take (Index·num table (name_place k i + 1)) (drop (Index·num table (name_place k i)) job), length-drop (Index·num table (name_place k i)) job)

-- one module too many
pub own_over : (prefix : ℕ) (s : Walk) (all : List Bytes) → s.entered ≡ 4096 → Within prefix (s.entered + 1) all → ⊥
own_over prefix s all h w = omega (arith, w.entered, h)

-- the names from i on are left
pub record Names (job : Bytes) (table : List ℕ) (k : ℕ) (mem : Bytes) (e : Name) (elen h : ℕ) (tail : Bytes) (num prefix total : ℕ) (all : List Bytes) (w : Walk) (text : Bytes) (ends : List ℕ) (i : ℕ) : Type 0 where
  pub turn : Turn prefix total all w text ends 0 (map (λ n. dotted (name_of mem e) ++ (tail ++ n)) (drop i (names_of job table k)))
  pub given : OwnGiven job table k mem e elen h tail
  pub numbered : num ≡ number 0 (dotted (name_of mem e) ++ tail)

module _ (job : Bytes) (table : List ℕ) (k : ℕ) (mem : Bytes) (e : Name) (elen h : ℕ) (tail : Bytes) where
  pub own_row : OwnGiven job table k mem e elen h tail → k ≤ 128
  own_row g = g.row

  module _ (num prefix : ℕ) where
    abbrev below : Bytes → Bytes
    below n = dotted (name_of mem e) ++ (tail ++ n)

    module _ (s : Walk) (text : Bytes) (ends : List ℕ) (rd : Ready prefix s text ends) where
      abbrev all : List Bytes
      all = add_all (paths_of text ends s.count) (map below (names_of job table k))

      abbrev entering : Walk
      entering = record { entered = s.entered + 1; count = s.count; end = s.end; used = s.used; stamp = s.stamp }

      pub enter_fits : (s.entered ≡ 4096 → ⊥) → s.entered + 1 < 2 ^ 64
      enter_fits m = omega (arith, rd.entered_few)

      pub names_start : OwnGiven job table k mem e elen h tail → (s.entered ≡ 4096 → ⊥) → num ≡ number h tail → Names job table k mem e elen h tail num prefix (s.entered + 1) all entering text ends 0
      names_start g m en =
          record {
            turn = record {
              ready = record {
                ascends = rd.ascends;
                used_is = rd.used_is;
                end_low = rd.end_low;
                used_low = rd.used_low;
                few = rd.few;
                entered_few = omega (arith, rd.entered_few, m);
                text_long = rd.text_long;
                ends_long = rd.ends_long;
                flagged = rd.flagged;
                small = rd.small;
              };
              entered_left = add-zero (s.entered + 1);
              paths_left = refl;
            };
            given = g;
            numbered = en ∙ rw g.number_is (sym (number_on 0 (dotted (name_of mem e)) tail));
          }

    module _ (total : ℕ) (all : List Bytes) (w : Walk) (text : Bytes) (ends : List ℕ) (i : ℕ) (inv : Names job table k mem e elen h tail num prefix total all w text ends i) where
      pub names_end : (z : ℕ) → z ≡ Index·num table (names_at k) → z ≤ i → Answer prefix total all (Ok w) text ends
      names_end z ez l =
          let n : drop i (names_of job table k) ≡ [] = drop_of_length-le (names_of job table k) {i = i} (omega (arith, l, ez, rows_length (name_in job table k) (Index·num table (names_at k)))) in
          turn_end prefix total all w text ends 0 (map below (drop i (names_of job table k))) inv.turn refl (ap (map below) n)

      pub names_row : k ≤ 128
      names_row = inv.given.row

      module _ (z : ℕ) (ez : z ≡ Index·num table (names_at k)) (l : i < z) where
        pub names_low : i ≤ 192
        names_low = omega (arith, l, ez, inv.given.few)

        pub names_fits : i + 1 < 2 ^ 64
        names_fits = omega (arith, l, ez, inv.given.few)

        left_is : drop i (names_of job table k) ≡ name_in job table k i ∷ drop (i + 1) (names_of job table k)
        left_is = rows_here (name_in job table k) (Index·num table (names_at k)) i (omega (arith, l, ez))

        module _ (p : Bytes) (ep : p ≡ name_in job table k i) where
          pub names_sized : Sized mem e elen tail p
          names_sized = record { is = inv.given.elen_is; fits = omega (arith, inv.given.fits, ap length ep, part_short job table k i) }

          rest_is : map below (drop i (names_of job table k)) ≡ (below p ∷ []) ++ map below (drop (i + 1) (names_of job table k))
          rest_is = ap (map below) left_is ∙ ap (λ (x : Bytes). below x ∷ map below (drop (i + 1) (names_of job table k))) (sym ep)

          pub names_stop : (Within prefix w.entered (add_new (paths_of text ends w.count) (dotted (name_of mem e) ++ (tail ++ p))) → ⊥) → (x : TooMany) (r : Result Walk TooMany) (text' : Bytes) (ends' : List ℕ) → IsErrAnd r (λ y. y ≡ x) → Answer prefix total all r text' ends'
          names_stop out x r text' ends' q =
              let one : Within prefix (w.entered + 0) (add_all (paths_of text ends w.count) (below p ∷ [])) → ⊥ = rw (add-zero w.entered, add_one_path (paths_of text ends w.count) (below p)) out in
              turn_stop prefix total all w text ends 0 (map below (drop i (names_of job table k))) inv.turn 0 0 (below p ∷ []) (map below (drop (i + 1) (names_of job table k))) refl rest_is one x r text' ends' q

          pub names_on : (w' : Walk) (text' : Bytes) (ends' : List ℕ) → Listed prefix w.entered (add_new (paths_of text ends w.count) (dotted (name_of mem e) ++ (tail ++ p))) w' text' ends' → Names job table k mem e elen h tail num prefix total all w' text' ends' (i + 1)
          names_on w' text' ends' a =
              let one : Listed prefix (w.entered + 0) (add_all (paths_of text ends w.count) (below p ∷ [])) w' text' ends' = rw (add-zero w.entered, add_one_path (paths_of text ends w.count) (below p)) a in
              record {
                turn = turn_next prefix total all w text ends 0 (map below (drop i (names_of job table k))) inv.turn 0 0 (below p ∷ []) (map below (drop (i + 1) (names_of job table k))) refl rest_is w' text' ends' one;
                given = inv.given;
                numbered = inv.numbered;
              }

pub ruleset owns = (rules, own_row, enter_fits, names_start, names_row, names_end, names_low, names_fits)
