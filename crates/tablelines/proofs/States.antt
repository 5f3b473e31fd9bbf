-- The states of a table: laws as the needs ask them. Assumes nothing.
use Prim.Native.Nat.{ℕ, ◌+◌, ◌-◌, ◌≤◌, ◌<◌}
use mathlib.Core.Path.{◌≡◌, refl, sym, ap, ◌∙◌}
use mathlib.Core.Bool.{Bool, true, false, cond}
use mathlib.Core.List.{List, ◌∷◌, ◌++◌, map, flat_map}
use native.Mathlib.Omega.{arith}
use lib.ListN.{length, drop}
use borrow.Author.Rules.{rules}
use Rattle.text.specs.Ascii.{Bytes, ascii}
use Rattle.out.specs.Emit.{Out, emit, ◌⊕◌, emit-⊕}
use Rattle.out.specs.Fill.{turns, arg, pick, writes, format2, emit_fill}
use Rattle.out.specs.Items.{joined, rest, unless, join_next, join_done}
use Rattle.spans.specs.Span.{◌⋯◌, bytes}
use Rattle.spans.specs.Reach.{held_by, reach_end}
use Rattle.spans.specs.declared.span.Span.{Span}
use Rattle.tcl.specs.Lists.{list}
use Rattle.nametable.specs.Table.{table_names, names_none}
use Rattle.listnames.specs.Lists.{Rooms, Listed}
use Rattle.model.specs.Records.{TableState}
use Rattle.texts.specs.Texts.{table_state}
use Rattle.store.specs.Strings.{string, span_of}
use Rattle.store.specs.View.{states_of}
use Rattle.store.specs.Order.{of_row}
use Rattle.store.specs.Rows.{row_at, rows_in}
use Rattle.store.specs.declared.row.Row.{Row}
use Rattle.made.specs.Made.{reach_of}
use Rattle.readfacts.specs.Few.{most_values}
use Rattle.storedtexts.specs.Rows.{rows_next, rows_end, within_drop, within_first}
use Rattle.tablelines.specs.Tables.{state_text, is_state, state_of, OfState, OfStates}

-- ---- a state

values_cut : (o : Out) (name vs : Bytes) → emit o (name ⊕ ascii "={" ⊕ vs ⊕ ascii "}") ≡ emit o (format2 "{0}={{{1}}}" name vs)
unfolding emit writes turns arg pick
values_cut o name vs = simp (emit-⊕, emit_fill)

pub values_pieces : (o : Out) (name : Bytes) (values : List Bytes) → emit o (name ⊕ ascii "={" ⊕ joined (ascii " ") values ⊕ ascii "}") ≡ emit o (state_text name values)
values_pieces o name values = values_cut o name (joined (ascii " ") values)

module _ (files area : Bytes) (r : Row) (g : OfState files area r) (v : Span) (ev : v ≡ span_of r.value) (table : List ℕ) where
  pub state_rooms : 320 ≤ length table → Rooms files area (0 ⋯ 0) v table 0
  state_rooms room =
      rw ev (record {
        held = held_by (length files) (length (files ++ area)) (span_of r.value) g.small (omega (arith, g.strings));
        scope_small = omega arith;
        small = omega (arith, reach_end (length files) (span_of r.value), g.strings, g.small);
        rows = omega (arith, g.few);
        room = omega (arith, g.few, room);
      })

  module _ (table' : List ℕ) (n : ℕ) (l : Listed (files ++ area) table 0 (list (bytes (files ++ area) v)) table' n) where
    values_are : table_names (files ++ area) table' n ≡ list (string (files ++ area) r.value)
    values_are = l.are ∙ rw (names_none (files ++ area) table 0, ev)

    pub state_few : n ≤ 65536
    state_few =
        let e : n ≡ 0 + length (list (string (files ++ area) r.value)) = l.count ∙ rw ev in
        omega (arith, e, g.few)

    pub state_is : (o o' : Out) → o' ≡ emit o (state_text (string (files ++ area) r.name) (table_names (files ++ area) table' n)) → o' ≡ emit o (table_state (state_of (files ++ area) r))
    state_is o o' h = rw values_are at h

pub ruleset states = (rules, state_rooms, state_few, state_is)

-- ---- the states among the rows left

abbrev left_of : Bytes → List ℕ → ℕ → ℕ → ℕ → List TableState
left_of mem nums rows k i = flat_map (states_of mem k) (drop i (rows_in nums rows))

pub record Joins (sep mem : Bytes) (nums : List ℕ) (rows k : ℕ) (w o : Out) (n i : ℕ) : Type 0 where
  pub keeps : emit o (rest sep n (map table_state (left_of mem nums rows k i))) ≡ w
  pub few : most_values (left_of mem nums rows k i) ≤ 64

pub joins_start : (sep files area : Bytes) (nums : List ℕ) (rows k : ℕ) (o : Out) → OfStates files area nums rows k → Joins sep (files ++ area) nums rows k (emit o (joined sep (map table_state (flat_map (states_of (files ++ area) k) (rows_in nums rows))))) o 0 0
unfolding rest
joins_start sep files area nums rows k o g = record { keeps = refl; few = g.few }

-- a row that is a state, or is not
state_first : (mem : Bytes) (k : ℕ) (r : Row) (rs : List Row) (b : Bool) → is_state k r ≡ b → flat_map (states_of mem k) (r ∷ rs) ≡ cond b (state_of mem r ∷ flat_map (states_of mem k) rs) (flat_map (states_of mem k) rs)
unfolding flat_map states_of
state_first mem k r rs true e = rw e
state_first mem k r rs false e = rw e

most_first : (x : TableState) (xs : List TableState) → most_values (x ∷ xs) ≤ 64 → (length x.values ≤ 64) × (most_values xs ≤ 64)
unfolding most_values
most_first x xs h = (omega arith, omega arith)

module _ (files area : Bytes) (nums : List ℕ) (rows k : ℕ) (g : OfStates files area nums rows k) (i : ℕ) (h : i < rows) where
  pub row_few : i < 1024
  row_few = omega (arith, g.rows_few)

  module _ (sep : Bytes) (w o : Out) (n : ℕ) (inv : Joins sep (files ++ area) nums rows k w o n i) (r : Row) (er : r ≡ row_at nums i) (b : Bool) (eb : b ≡ is_state k r) where
    now_left : left_of (files ++ area) nums rows k i ≡ cond b (state_of (files ++ area) r ∷ left_of (files ++ area) nums rows k (i + 1)) (left_of (files ++ area) nums rows k (i + 1))
    now_left = ap (flat_map (states_of (files ++ area) k)) (rows_next nums rows i h) ∙ rw (← er) (state_first (files ++ area) k r (drop (i + 1) (rows_in nums rows)) b (sym eb))

    pub joins_other : b ≡ false → Joins sep (files ++ area) nums rows k w o n (i + 1)
    joins_other q = record { keeps = rw (now_left, q) at inv.keeps; few = rw (now_left, q) at inv.few }

    module _ (q : b ≡ true) where
      both_few : (length (list (string (files ++ area) r.value)) ≤ 64) × (most_values (left_of (files ++ area) nums rows k (i + 1)) ≤ 64)
      both_few = most_first (state_of (files ++ area) r) (left_of (files ++ area) nums rows k (i + 1)) (rw (now_left, q) at inv.few)

      pub joins_state : OfState files area r
      joins_state =
          record {
            small = g.small;
            strings = rw er (within_first (of_row (reach_of (length files))) (length (files ++ area)) (row_at nums i) (drop (i + 1) (rows_in nums rows)) (rw (rows_next nums rows i h) at (within_drop (of_row (reach_of (length files))) (length (files ++ area)) i (rows_in nums rows) g.strings)));
            few = both_few.0;
          }

      pub joins_next : (o₁ o₂ : Out) → o₂ ≡ emit o₁ (table_state (state_of (files ++ area) r)) → o₁ ≡ emit o (unless n sep) → Joins sep (files ++ area) nums rows k w o₂ (n + 1) (i + 1)
      joins_next o₁ o₂ e₂ e₁ =
          record {
            keeps = join_next o o₁ o₂ w sep n 0 (table_state (state_of (files ++ area) r)) (map table_state (left_of (files ++ area) nums rows k (i + 1))) e₁ e₂ (rw (now_left, q) at inv.keeps);
            few = both_few.1;
          }

pub joins_done : (sep mem : Bytes) (nums : List ℕ) (rows k : ℕ) (w o : Out) (n i : ℕ) → Joins sep mem nums rows k w o n i → rows ≤ i → o ≡ w
unfolding flat_map
joins_done sep mem nums rows k w o n i inv h = join_done o w sep n (rw (rows_end nums rows i h) at inv.keeps)
