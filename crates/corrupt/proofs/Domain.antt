-- The elements of a domain, one after the other: what the domain comes to is what was listed so far and what the elements left come to.
-- Assumes nothing.
use Prim.Native.Nat.{ℕ, suc, ◌+◌, ◌-◌, ◌≤◌, ◌<◌, ◌^◌}
use mathlib.Core.Path.{◌≡◌, refl, sym, ap, ◌∙◌}
use mathlib.Core.List.{List, [], ◌∷◌, ◌++◌, flat_map, append-nil}
use Rattle.std.specs.Prelude.{None, Some, Result, Ok, Err, IsErrAnd}
use native.Mathlib.Omega.{arith}
use native.Mathlib.Nat.{sub-zero}
use lib.ListN.{length, take, length-append}
use Rattle.text.specs.Ascii.{Bytes}
use Rattle.joblines.specs.Job.{Module}
use Rattle.jobindex.specs.Index.{module_row}
use Rattle.lookup.specs.Rows.{modules, ModuleSeen}
use Rattle.names.specs.Name.{name_of}
use Rattle.names.specs.declared.name.Name.{Name}
use Rattle.nametable.specs.Table.{row_name, names_from, table_names, names_next, names_none}
use Rattle.design.specs.Lists.{add_all}
use Rattle.design.specs.Lookup.{module_at}
use Rattle.design.specs.Paths.{dotted, element_path, filled_parts}
use Rattle.walk.specs.Walk.{sum_over, retained_paths, element_list, domain_list, element_entered, domain_entered}
use Rattle.paths.specs.Sizes.{name_short}
use Rattle.pathnumber.specs.Number.{number}
use Rattle.listing.specs.declared.TooMany.{TooMany}
use Rattle.listing.specs.declared.Walk.{Walk}
use Rattle.listing.specs.Flags.{flagged_none}
use Rattle.listing.specs.Listing.{cut, paths_of, Ascends, cost, nowhere, Answer}
use Rattle.listing.specs.Turns.{Turn, turn_end, turn_stop, turn_next}
use Rattle.corrupt.specs.Corrupt.{Given, DomainGiven, Walked}
use Rattle.corrupt.proofs.OverTable.{lost_is, entered_is, table_sound}

element_path_lem : (e : Bytes) → element_path [] e ≡ dotted e
element_path_lem [] = refl
element_path_lem (b ∷ e) = refl

-- the elements from row i on are left
pub record Elements (job : Bytes) (index : List ℕ) (count k : ℕ) (table : List ℕ) (files area : Bytes) (n : ℕ) (entries : List Bytes) (elements : List ℕ) (m prefix : ℕ) (tail₀ text₀ : Bytes) (ends₀ : List ℕ) (total : ℕ) (all : List Bytes) (text : Bytes) (ends : List ℕ) (w : Walk) (i : ℕ) : Type 0 where
  pub turn : Turn prefix total all w text ends
      (sum_over (element_entered (modules job index count) (module_row job index k) [] entries) (names_from (files ++ area) elements i (m - i)))
      (flat_map (element_list (modules job index count) (module_row job index k) [] entries) (names_from (files ++ area) elements i (m - i)))
  pub given : DomainGiven job index count k table files area n m prefix tail₀ text₀ ends₀

module _ (job : Bytes) (index : List ℕ) (count k : ℕ) (table : List ℕ) (files area : Bytes) (n : ℕ) (entries : List Bytes) (elements : List ℕ) (m prefix : ℕ) (tail₀ text₀ : Bytes) (ends₀ : List ℕ) where
  abbrev d : List Module
  d = modules job index count

  abbrev base : Module
  base = module_row job index k

  abbrev mem : Bytes
  mem = files ++ area

  pub elements_start : DomainGiven job index count k table files area n m prefix tail₀ text₀ ends₀ → (stamp : ℕ) (w : Walk) → w ≡ nowhere stamp
      → Elements job index count k table files area n entries elements m prefix tail₀ text₀ ends₀ (domain_entered d base [] entries (table_names mem elements m)) (domain_list d base [] entries (table_names mem elements m)) text₀ ends₀ w 0
  unfolding domain_entered domain_list cut cost sum_over Ascends
  elements_start g stamp w ew =
      rw ew (record {
        turn = record {
          ready = record {
            ascends = refl;
            used_is = refl;
            end_low = omega arith;
            used_low = omega arith;
            few = omega arith;
            entered_few = omega arith;
            text_long = g.text_long;
            ends_long = g.ends_long;
            flagged = flagged_none stamp ends₀;
            small = g.prefix_small;
          };
          entered_left = rw (sub-zero m) (omega arith);
          paths_left = rw (sub-zero m) refl;
        };
        given = g;
      })

  module _ (total : ℕ) (all : List Bytes) (text : Bytes) (ends : List ℕ) (w : Walk) (i : ℕ) (inv : Elements job index count k table files area n entries elements m prefix tail₀ text₀ ends₀ total all text ends w i) where
    pub elements_end : m ≤ i → Answer prefix total all (Ok w) text ends
    unfolding sum_over flat_map
    elements_end h =
        let z : m - i ≡ 0 = omega arith in
        turn_end prefix total all w text ends (sum_over (element_entered d base [] entries) (names_from mem elements i (m - i))) (flat_map (element_list d base [] entries) (names_from mem elements i (m - i))) inv.turn
        (rw (z, names_none mem elements i) refl) (rw (z, names_none mem elements i) refl)

    pub element_row : i < m → i ≤ 65536
    element_row h = omega (arith, inv.given.elements_few)

    pub element_given : (count ≤ 128) × (k < count)
    element_given = (inv.given.few, inv.given.row)

    pub element_fits : i < m → i + 1 < 2 ^ 64
    element_fits h = omega (arith, inv.given.elements_few)

    module _ (l : i < m) (e : Name) (ee : e ≡ row_name elements i) where
      left_is : names_from mem elements i (m - i) ≡ name_of mem e ∷ names_from mem elements (i + 1) (m - (i + 1))
      left_is =
          let z : m - i ≡ suc (m - (i + 1)) = omega arith in
          rw (z, ee) (names_next mem elements i (m - (i + 1)))

      entered_left : sum_over (element_entered d base [] entries) (names_from mem elements i (m - i)) ≡ element_entered d base [] entries (name_of mem e) + sum_over (element_entered d base [] entries) (names_from mem elements (i + 1) (m - (i + 1)))
      unfolding sum_over
      entered_left = rw left_is

      paths_left : flat_map (element_list d base [] entries) (names_from mem elements i (m - i)) ≡ element_list d base [] entries (name_of mem e) ++ flat_map (element_list d base [] entries) (names_from mem elements (i + 1) (m - (i + 1)))
      unfolding flat_map
      paths_left = rw left_is

      pub elements_pass : ModuleSeen job index count (module_at d base (filled_parts (name_of mem e))) None → Elements job index count k table files area n entries elements m prefix tail₀ text₀ ends₀ total all text ends w (i + 1)
      unfolding element_entered element_list
      elements_pass seen =
          let o : module_at d base (filled_parts (name_of mem e)) ≡ None = sym seen.says in
          let x : element_entered d base [] entries (name_of mem e) ≡ 0 = rw o in
          let y : element_list d base [] entries (name_of mem e) ≡ [] = rw o in
          record {
            turn = record {
              ready = inv.turn.ready;
              entered_left = ap (λ v. w.entered + v) (sym (entered_left ∙ rw x (omega arith))) ∙ inv.turn.entered_left;
              paths_left = ap (add_all (paths_of text ends w.count)) (sym (paths_left ∙ rw y refl)) ∙ inv.turn.paths_left;
            };
            given = inv.given;
          }

      pub element_small : length files + length area < 2 ^ 32
      element_small = inv.given.memory_small

      module _ (row : ℕ) (seen : ModuleSeen job index count (module_at d base (filled_parts (name_of mem e))) (Some row)) (elen : ℕ) (el : elen ≡ length (name_of mem e)) (h : ℕ) (eh : h ≡ number 0 (dotted (name_of mem e))) where
        pub element_walk : Given job table row 32 mem n e elen h 0
        element_walk =
            let g = inv.given in
            record {
              sound = table_sound job index count table g.tabled g.short g.few row (seen.within);
              entries_few = g.entries_few;
              elen_is = el;
              number_is = eh;
              elen_small = omega (arith, el, name_short mem e, length-append files area, g.memory_small);
              job_small = g.job_small;
              room = omega arith;
            }

        module _ (tail tail' : Bytes) (text' : Bytes) (ends' : List ℕ) where
          abbrev Goes : Result Walk TooMany → Type 0
          Goes r = Walked job table row 32 mem entries e tail tail' 0 prefix w.entered (paths_of text ends w.count) r text' ends'

          found : module_at d base (filled_parts (name_of mem e)) ≡ Some (module_row job index row)
          found = sym seen.says

          path_is : dotted (name_of mem e) ++ take 0 tail ≡ element_path [] (name_of mem e)
          path_is = append-nil (dotted (name_of mem e)) ∙ sym (element_path_lem (name_of mem e))

          answer_is : (r : Result Walk TooMany) → Goes r → Answer prefix (w.entered + element_entered d base [] entries (name_of mem e)) (add_all (paths_of text ends w.count) (element_list d base [] entries (name_of mem e))) r text' ends'
          unfolding element_entered element_list
          answer_is r a =
              let l : row < count = seen.within in
              rw found (rw (
                path_is,
                entered_is job index count table inv.given.tabled (retained_paths [] entries) 32 row l (element_path [] (name_of mem e)),
                lost_is job index count table inv.given.tabled (retained_paths [] entries) 32 row l (element_path [] (name_of mem e)),
              ) at a.answer)

          pub elements_stop : (x : TooMany) → Goes (Err x) → (r : Result Walk TooMany) → IsErrAnd r (λ y. y ≡ x) → Answer prefix total all r text' ends'
          elements_stop x a r q =
              turn_stop prefix total all w text ends (sum_over (element_entered d base [] entries) (names_from mem elements i (m - i))) (flat_map (element_list d base [] entries) (names_from mem elements i (m - i))) inv.turn
              (element_entered d base [] entries (name_of mem e)) (sum_over (element_entered d base [] entries) (names_from mem elements (i + 1) (m - (i + 1)))) (element_list d base [] entries (name_of mem e)) (flat_map (element_list d base [] entries) (names_from mem elements (i + 1) (m - (i + 1))))
              entered_left paths_left (answer_is (Err x) a) x r text' ends' q

          pub elements_on : (w' : Walk) → Goes (Ok w') → Elements job index count k table files area n entries elements m prefix tail₀ text₀ ends₀ total all text' ends' w' (i + 1)
          elements_on w' a =
              record {
                turn = turn_next prefix total all w text ends (sum_over (element_entered d base [] entries) (names_from mem elements i (m - i))) (flat_map (element_list d base [] entries) (names_from mem elements i (m - i))) inv.turn
                    (element_entered d base [] entries (name_of mem e)) (sum_over (element_entered d base [] entries) (names_from mem elements (i + 1) (m - (i + 1)))) (element_list d base [] entries (name_of mem e)) (flat_map (element_list d base [] entries) (names_from mem elements (i + 1) (m - (i + 1))))
                    entered_left paths_left w' text' ends' (answer_is (Ok w') a);
                given = inv.given;
              }
