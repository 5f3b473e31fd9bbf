-- The instances through which the walk goes down, put one after the other: those stored so far, and those of the lines left, are all.
-- Assumes nothing.
use Prim.Native.Nat.{ℕ, suc, ◌+◌, ◌-◌, ◌≤◌, ◌<◌}
use mathlib.Core.Path.{◌≡◌, refl, sym, ap, ap₂, ◌∙◌}
use mathlib.Core.Bool.{cond}
use mathlib.Core.Logic.{⊎_elim}
use Rattle.std.specs.Prelude.{Option, None, Some}
use mathlib.Core.List.{List, [], ◌∷◌, ◌++◌, append-nil, append_assoc}
use native.Mathlib.Omega.{arith}
use native.Mathlib.Nat.{eq-or-lt_of_le}
use lib.ListN.{length, take, set, length-append, length-set}
use lib.Seq.{get_or-set_same, get_or-set_other, take-set-le}
use borrow.Author.Rules.{rules}
use Rattle.text.specs.Ascii.{Bytes}
use Rattle.fields.specs.Meant.{dims_is}
use Rattle.fields.specs.declared.Dims.{Dims}
use Rattle.fields.specs.declared.Dims.TheVariants as dims
use Rattle.joblines.specs.Job.{Inst, Module}
use Rattle.joblines.specs.Sections.{insts_in}
use Rattle.jobindex.specs.Index.{num, section, module_row, rows}
use Rattle.jobindex.specs.Rows.{rows_more, rows_length, rows_same}
use Rattle.jobindex.specs.declared.Span.{Span}
use Rattle.lines.specs.Cursors.{spanned, inst_is, InstSeen}
use Rattle.lines.specs.declared.InstAt.{InstAt}
use Rattle.lookup.specs.Rows.{modules, ModuleSeen, insts_from, insts_end, insts_are}
use Rattle.design.specs.Lists.{on_some}
use Rattle.design.specs.Lookup.{module_named}
use Rattle.walk.specs.Walk.{entered}
use Rattle.modtable.specs.Table.{Way, ways_at, way_place, way_in, ways_down, low_of, part_put}
use Rattle.modtable.specs.Making.{WaysGiven, WaysPut}
use Rattle.modtable.proofs.Numbers.{low_small, put_part, put_other, put_front, put_long}

-- ---- through an instance

module _ (job : Bytes) (index : List ℕ) (count : ℕ) (d : Dims) (kind : Span) where
  abbrev target : Option Module
  target = cond (dims_is d) None (module_named (modules job index count) (spanned job kind))

  pub enter_array : d ≡ dims.One → ModuleSeen job index count target None
  enter_array h = record { says = rw h; within = tt }

  module _ (p : Bytes) (ep : p ≡ spanned job kind) (r : Option ℕ) (named : ModuleSeen job index count (module_named (modules job index count) p) r) where
    pub enter_plain : d ≡ dims.Zero → ModuleSeen job index count target r
    enter_plain h = record { says = rw (h, ← ep) named.says; within = named.within }

pub ruleset enters = (rules, enter_array, enter_plain)

-- ---- one after the other

ways_fewer : (d : List Module) (is : List Inst) → length (ways_down d is) ≤ length is
unfolding ways_down
ways_fewer d [] = omega arith
ways_fewer d (i ∷ is) = go (entered d i) (ways_fewer d is)
  where
    go : (o : Option Module) → length (ways_down d is) ≤ length is → length (on_some o (ways_down d is) λ m. record { name = i.name; into = m } ∷ ways_down d is) ≤ suc (length is)
    go None h = omega arith
    go (Some m) h = omega arith

-- the first j instances are stored, those of the lines from `at` up to `end` are left
pub record WaysOn (job : Bytes) (index : List ℕ) (count k : ℕ) (table₀ table : List ℕ) (at end j : ℕ) : Type 0 where
  pub front : take (ways_at k) table ≡ take (ways_at k) table₀
  pub long : length table ≡ length table₀
  pub low : j ≤ 64
  pub done : rows (way_in job index table k) j ++ ways_down (modules job index count) (insts_in (section job at end)) ≡ ways_down (modules job index count) (module_row job index k).insts
  pub within : (q : ℕ) → q < j → num table (way_place k q + 2) < count
  pub given : WaysGiven job index count k table₀

module _ (job : Bytes) (index : List ℕ) (count k : ℕ) (table₀ : List ℕ) where
  abbrev d : List Module
  d = modules job index count

  abbrev all : List Way
  all = ways_down d (module_row job index k).insts

  pub ways_given_row : WaysGiven job index count k table₀ → k ≤ 128
  ways_given_row g = omega (arith, g.row)

  pub ways_start : WaysGiven job index count k table₀ → (at end : ℕ) → at ≡ insts_from index k → end ≡ insts_end index k → WaysOn job index count k table₀ table₀ at end 0
  unfolding rows
  ways_start g at end ea ee =
      record {
        front = refl;
        long = refl;
        low = omega arith;
        done = ap (ways_down d) (sym (insts_are job index k ∙ rw (ea, ee)));
        within = λ q l. absurd (omega (arith, l));
        given = g;
      }

  module _ (table : List ℕ) (at end j : ℕ) (inv : WaysOn job index count k table₀ table at end j) where
    pub ways_few : count ≤ 128
    ways_few = inv.given.count_few

    all_long : j + length (ways_down d (insts_in (section job at end))) ≡ length all
    all_long = sym (length-append (rows (way_in job index table k) j) (ways_down d (insts_in (section job at end))) ∙ ap (λ n. n + length (ways_down d (insts_in (section job at end)))) (rows_length (way_in job index table k) j)) ∙ ap length inv.done

    all_few : length all ≤ 64
    all_few = omega (arith, ways_fewer d (module_row job index k).insts, inv.given.few)

    module _ (seen : InstSeen job at end None) where
      pub ways_room : ways_at k < length table
      ways_room = omega (arith, inv.given.row, inv.given.long, inv.long)

      low : low_of j ≡ j
      low = low_small j (omega (arith, all_long, all_few))

      abbrev table' : List ℕ
      table' = set table (ways_at k) (low_of j)

      counted : num table' (ways_at k) ≡ j
      counted = get_or-set_same table (ways_at k) (low_of j) 0 ways_room ∙ low

      kept : (i : ℕ) → ways_at k < i → num table' i ≡ num table i
      kept i l = get_or-set_other table (ways_at k) i (low_of j) 0 (λ e. omega (arith, e, l))

      way_kept : (q : ℕ) → q < j → way_in job index table' k q ≡ way_in job index table k q
      way_kept q l = rw (kept (way_place k q) (omega arith), kept (way_place k q + 1) (omega arith), kept (way_place k q + 2) (omega arith))

      none_left : ways_down d (insts_in (section job at end)) ≡ []
      unfolding ways_down
      none_left = let z : insts_in (section job at end) ≡ [] = sym seen.says in rw z

      pub ways_end : (x : ℕ) → x ≡ low_of j → WaysPut job index count k table₀ (set table (ways_at k) x)
      ways_end x ex =
          rw ex (record {
            front = take-set-le (ways_at k) table (ways_at k) (low_of j) (omega arith) ∙ inv.front;
            ways = rw counted (rows_same (way_in job index table' k) (way_in job index table k) j way_kept) ∙ sym (append-nil (rows (way_in job index table k) j)) ∙ ap (λ (l : List Way). rows (way_in job index table k) j ++ l) (sym none_left) ∙ inv.done;
            few = omega (arith, counted, all_long, all_few);
            within = λ q l. rw (kept (way_place k q + 2) (omega arith)) (inv.within q (rw counted at l));
          })

    module _ (r : InstAt) (seen : InstSeen job at end (Some r)) where
      pub ways_less : end - r.next < end - at
      ways_less = omega (arith, seen.goes.further, seen.goes.within)

      abbrev this : Inst
      this = inst_is job end r.dims r.name r.kind r.next

      left_is : insts_in (section job at end) ≡ this ∷ insts_in (section job r.next end)
      left_is = sym seen.says

      abbrev EnteredIs : Option ℕ → Type 0
      EnteredIs = ModuleSeen job index count (cond (dims_is r.dims) None (module_named (modules job index count) (spanned job r.kind)))

      pub ways_pass : EnteredIs None → WaysOn job index count k table₀ table r.next end j
      unfolding entered ways_down
      ways_pass m =
          let n : entered d this ≡ None = sym m.says in
          let l : ways_down d (insts_in (section job at end)) ≡ ways_down d (insts_in (section job r.next end)) = rw (left_is, n) in
          record { front = inv.front; long = inv.long; low = inv.low; done = ap (λ (x : List Way). rows (way_in job index table k) j ++ x) (sym l) ∙ inv.done; within = inv.within; given = inv.given }

      module _ (row : ℕ) (m : EnteredIs (Some row)) where
        abbrev way : Way
        way = record { name = spanned job r.name; into = module_row job index row }

        rest_is : ways_down d (insts_in (section job at end)) ≡ way ∷ ways_down d (insts_in (section job r.next end))
        unfolding entered ways_down
        rest_is = let n : entered d this ≡ Some (module_row job index row) = sym m.says in rw (left_is, n)

        pub ways_low : j < 64
        ways_low = omega (arith, all_long, ap length rest_is, all_few)

        abbrev place : ℕ
        place = way_place k j

        pub ways_place : way_place k j + 1 < length table
        ways_place = omega (arith, ways_low, inv.given.row, inv.given.long, inv.long)

        module _ (t : List ℕ) (et : t ≡ part_put table (way_place k j) r.name) where
          put_len_is : length t ≡ length table
          put_len_is = ap length et ∙ put_long table place r.name

          pub ways_room_row : way_place k j + 2 < length t
          ways_room_row = omega (arith, put_len_is, ways_low, inv.given.row, inv.given.long, inv.long)

          row_low : low_of row ≡ row
          row_low = low_small row (omega (arith, m.within, inv.given.count_few))

          abbrev t' : List ℕ
          t' = set t (place + 2) (low_of row)

          other : (i : ℕ) → i < place → num t' i ≡ num table i
          other i l = get_or-set_other t (place + 2) i (low_of row) 0 (λ e. omega (arith, e, l)) ∙ rw et (put_other table place r.name i (λ e. omega (arith, e, l)) (λ e. omega (arith, e, l)))

          way_same : (q : ℕ) → q < j → way_in job index t' k q ≡ way_in job index table k q
          way_same q l = rw (other (way_place k q) (omega arith), other (way_place k q + 1) (omega arith), other (way_place k q + 2) (omega arith))

          row_there : num t' (place + 2) ≡ row
          row_there = get_or-set_same t (place + 2) (low_of row) 0 ways_room_row ∙ row_low

          name_there : (c : ℕ) → c < 2 → num t' (place + c) ≡ num (part_put table place r.name) (place + c)
          name_there c l = get_or-set_other t (place + 2) (place + c) (low_of row) 0 (λ e. omega (arith, e, l)) ∙ rw et

          way_new : way_in job index t' k j ≡ way
          way_new =
              let a : num t' place ≡ num (part_put table place r.name) place = get_or-set_other t (place + 2) place (low_of row) 0 (λ e. omega (arith, e)) ∙ rw et in
              let b : num t' (place + 1) ≡ num (part_put table place r.name) (place + 1) = get_or-set_other t (place + 2) (place + 1) (low_of row) 0 (λ e. omega (arith, e)) ∙ rw et in
              rw (a, b, row_there, put_part table place r.name ways_place job inv.given.small)

          within_on : (q : ℕ) → q < j + 1 → num t' (way_place k q + 2) < count
          within_on q l =
              let lo : q ≤ j = omega arith in
              ⊎_elim (λ e. last e) (λ g. rw (other (way_place k q + 2) (omega (arith, g))) (inv.within q g)) (eq-or-lt_of_le lo)
            where
              last : q ≡ j → num t' (way_place k q + 2) < count
              last e = let w : num t' (way_place k q + 2) ≡ row = ap (λ y. num t' (way_place k y + 2)) e ∙ row_there in omega (arith, w, m.within)

          pub ways_next : (x : ℕ) → x ≡ low_of row → WaysOn job index count k table₀ (set t (way_place k j + 2) x) r.next end (j + 1)
          ways_next x ex =
              rw ex (record {
                front = take-set-le (ways_at k) t (place + 2) (low_of row) (omega arith) ∙ rw et (put_front (ways_at k) table place r.name (omega arith)) ∙ inv.front;
                long = length-set t (place + 2) (low_of row) ∙ put_len_is ∙ inv.long;
                low = omega (arith, ways_low);
                done =
                    ap (λ (l : List Way). l ++ ways_down d (insts_in (section job r.next end))) (rows_more (way_in job index t' k) j
                    ∙ ap₂ (λ (l : List Way) (y : Way). l ++ (y ∷ [])) (rows_same (way_in job index t' k) (way_in job index table k) j way_same) way_new)
                    ∙ append_assoc (rows (way_in job index table k) j) (way ∷ []) (ways_down d (insts_in (section job r.next end)))
                    ∙ ap (λ (l : List Way). rows (way_in job index table k) j ++ l) (sym rest_is)
                    ∙ inv.done;
                within = within_on;
                given = inv.given;
              })

pub ruleset ways = (rules, ways_given_row, ways_start, ways_few, ways_room, ways_end, ways_less, ways_pass, ways_low, ways_place, ways_room_row, ways_next)
