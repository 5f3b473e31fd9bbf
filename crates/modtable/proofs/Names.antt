-- The names that a module loses, put one after the other: those stored so far, and those behind the cursor, are all. Assumes nothing.
use Rattle.std.specs.Prelude.{Some, None}
use Prim.Native.Nat.{ℕ, ◌+◌, ◌≤◌, ◌<◌}
use mathlib.Core.Path.{◌≡◌, refl, sym, ap, ap₂, ◌∙◌}
use mathlib.Core.Bool.{Bool, true, false}
use mathlib.Core.List.{List, [], ◌∷◌, ◌++◌, append-nil, append_assoc}
use native.Mathlib.Omega.{arith}
use lib.ListN.{length, take, set, length-append}
use lib.Seq.{get_or-set_same, get_or-set_other, take-set-le}
use borrow.Author.Rules.{rules}
use Rattle.text.specs.Ascii.{Bytes}
use Rattle.jobindex.specs.Index.{num, module_row, rows}
use Rattle.jobindex.specs.Rows.{rows_more, rows_length, rows_same}
use Rattle.lines.specs.Cursors.{spanned}
use Rattle.ports.specs.declared.Cursor.{Cursor}
use Rattle.ports.specs.declared.Cursor.TheVariants as cursor
use Rattle.ports.specs.declared.Step.{Step}
use Rattle.ports.specs.Cursors.{ports_from, candidates_from, losable_from, CursorAt, CandidateSeen}
use Rattle.ports.specs.Starts.{losable_start}
use Rattle.design.specs.Lists.{those, is_in}
use Rattle.design.specs.Ports.{input_ports, losable}
use Rattle.modtable.specs.Table.{names_at, name_place, name_in, input_in, low_of, part_put}
use Rattle.modtable.specs.Making.{NamesGiven, NamesPut}
use Rattle.modtable.proofs.Numbers.{low_small, put_part, put_other, put_front, put_long}

-- the first i names are stored, those behind the cursor are left
pub record NamesOn (job : Bytes) (index : List ℕ) (k : ℕ) (inputs : List ℕ) (m : ℕ) (table₀ table : List ℕ) (i : ℕ) (c : Cursor) : Type 0 where
  pub front : take (names_at k) table ≡ take (names_at k) table₀
  pub long : length table ≡ length table₀
  pub low : i ≤ 192
  pub done : rows (name_in job table k) i ++ losable_from job index k c ≡ losable (module_row job index k)
  pub cursor : CursorAt job index k c
  pub given : NamesGiven job index k inputs m table₀

module _ (job : Bytes) (index : List ℕ) (k : ℕ) (inputs : List ℕ) (m : ℕ) (table₀ : List ℕ) where
  pub names_given_row : NamesGiven job index k inputs m table₀ → k ≤ 128
  names_given_row g = omega (arith, g.row)

  pub names_start : NamesGiven job index k inputs m table₀ → (c : Cursor) → c ≡ cursor.Header (ports_from index k) false → NamesOn job index k inputs m table₀ table₀ 0 c
  unfolding rows
  names_start g c e = rw e (record { front = refl; long = refl; low = omega arith; done = losable_start job index k; cursor = tt; given = g })

  module _ (table : List ℕ) (i : ℕ) (c : Cursor) (inv : NamesOn job index k inputs m table₀ table i c) where
    pub names_row : k ≤ 128
    names_row = omega (arith, inv.given.row)

    pub names_cursor : CursorAt job index k c
    names_cursor = inv.cursor

    all_long : i + length (losable_from job index k c) ≡ length (losable (module_row job index k))
    all_long = sym (length-append (rows (name_in job table k) i) (losable_from job index k c) ∙ ap (λ n. n + length (losable_from job index k c)) (rows_length (name_in job table k) i)) ∙ ap length inv.done

    module _ (seen : CandidateSeen job index k c None) where
      pub names_room : names_at k < length table
      names_room = omega (arith, inv.given.row, inv.given.long, inv.long)

      low : low_of i ≡ i
      low = low_small i (omega (arith, all_long, inv.given.few))

      abbrev table' : List ℕ
      table' = set table (names_at k) (low_of i)

      counted : num table' (names_at k) ≡ i
      counted = get_or-set_same table (names_at k) (low_of i) 0 names_room ∙ low

      name_kept : (j : ℕ) → j < i → name_in job table' k j ≡ name_in job table k j
      name_kept j l = rw (get_or-set_other table (names_at k) (name_place k j) (low_of i) 0 (λ e. omega (arith, e)), get_or-set_other table (names_at k) (name_place k j + 1) (low_of i) 0 (λ e. omega (arith, e)))

      none_left : losable_from job index k c ≡ []
      unfolding those
      none_left = let e : candidates_from job index k c ≡ [] = sym seen.says in rw e

      pub names_end : (x : ℕ) → x ≡ low_of i → NamesPut job index k table₀ (set table (names_at k) x)
      names_end x ex =
          rw ex (record {
            front = take-set-le (names_at k) table (names_at k) (low_of i) (omega arith) ∙ inv.front;
            names = rw counted (rows_same (name_in job table' k) (name_in job table k) i name_kept) ∙ sym (append-nil (rows (name_in job table k) i)) ∙ ap (λ (l : List Bytes). rows (name_in job table k) i ++ l) (sym none_left) ∙ inv.done;
            few = omega (arith, counted, all_long, inv.given.few);
          })

    module _ (r : Step) (seen : CandidateSeen job index k c (Some r)) where
      begins : candidates_from job index k c ≡ spanned job r.name ∷ candidates_from job index k r.next
      begins = sym seen.says

      pub names_less : length (candidates_from job index k r.next) < length (candidates_from job index k c)
      names_less = omega (arith, ap length begins)

      pub names_few : m ≤ 192
      names_few = inv.given.put.few

      module _ (p : Bytes) (ep : p ≡ spanned job r.name) (b : Bool) (eb : b ≡ is_in p (rows (input_in job inputs) m)) where
        test : is_in (spanned job r.name) (input_ports (module_row job index k)) ≡ b
        test = sym (eb ∙ ap₂ is_in ep inv.given.put.inputs_are)

        pub names_pass : b ≡ true → NamesOn job index k inputs m table₀ table i r.next
        unfolding those
        names_pass g =
            let l : losable_from job index k c ≡ losable_from job index k r.next = rw (begins, test, g) in
            record {
              front = inv.front;
              long = inv.long;
              low = inv.low;
              done = ap (λ (x : List Bytes). rows (name_in job table k) i ++ x) (sym l) ∙ inv.done;
              cursor = seen.goes;
              given = inv.given;
            }

        module _ (g : b ≡ false) where
          left_is : losable_from job index k c ≡ spanned job r.name ∷ losable_from job index k r.next
          unfolding those
          left_is = rw (begins, test, g)

          names_low : i < 192
          names_low = omega (arith, all_long, ap length left_is, inv.given.few)

          pub names_place : name_place k i + 1 < length table
          names_place = omega (arith, names_low, inv.given.row, inv.given.long, inv.long)

          put_kept : (j : ℕ) → j < i → name_in job (part_put table (name_place k i) r.name) k j ≡ name_in job table k j
          put_kept j l = rw (put_other table (name_place k i) r.name (name_place k j) (λ e. omega (arith, e)) (λ e. omega (arith, e)), put_other table (name_place k i) r.name (name_place k j + 1) (λ e. omega (arith, e)) (λ e. omega (arith, e)))

          pub names_next : (t : List ℕ) → t ≡ part_put table (name_place k i) r.name → NamesOn job index k inputs m table₀ t (i + 1) r.next
          names_next t et =
              rw et (record {
                front = put_front (names_at k) table (name_place k i) r.name (omega arith) ∙ inv.front;
                long = put_long table (name_place k i) r.name ∙ inv.long;
                low = omega (arith, names_low);
                done =
                    ap (λ (l : List Bytes). l ++ losable_from job index k r.next) (rows_more (name_in job (part_put table (name_place k i) r.name) k) i
                    ∙ ap₂ (λ (l : List Bytes) (x : Bytes). l ++ (x ∷ [])) (rows_same (name_in job (part_put table (name_place k i) r.name) k) (name_in job table k) i put_kept) (put_part table (name_place k i) r.name names_place job inv.given.small))
                    ∙ append_assoc (rows (name_in job table k) i) (spanned job r.name ∷ []) (losable_from job index k r.next)
                    ∙ ap (λ (l : List Bytes). rows (name_in job table k) i ++ l) (sym left_is)
                    ∙ inv.done;
                cursor = seen.goes;
                given = inv.given;
              })

pub ruleset names = (rules, names_given_row, names_start, names_row, names_cursor, names_room, names_end, names_less, names_few, names_pass, names_place, names_next)
