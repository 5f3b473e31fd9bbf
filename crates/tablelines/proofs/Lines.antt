-- The lines of tables: laws as the needs ask them. Assumes nothing.
use Rattle.store.specs.declared.state.Few.{Few}
use Prim.Native.Nat.{ℕ, zero, suc, ◌+◌, ◌-◌, ◌≤◌, ◌<◌}
use mathlib.Core.Path.{◌≡◌, refl, sym, ap, ◌∙◌}
use mathlib.Core.List.{List, [], ◌∷◌, ◌++◌, flat_map}
use native.Mathlib.Omega.{arith}
use lib.ListN.{length, take, drop, get_or, length-map}
use lib.Seq.{length-take-le, get_or-take}
use borrow.Author.Rules.{rules}
use Rattle.text.specs.Ascii.{Bytes, ascii}
use Rattle.out.specs.Emit.{Out, emit, emit_append, ◌⊕◌, emit-⊕}
use Rattle.out.specs.Fill.{turns, arg, pick, writes, format1, format3, emit_fill}
use Rattle.out.specs.Items.{each, each_cons, each_none}
use Rattle.spans.specs.Reach.{held_by, reach_end}
use Rattle.tcl.specs.Lists.{list}
use Rattle.names.specs.Scoped.{scoped}
use Rattle.nametable.specs.Table.{table_names, names_none}
use Rattle.listnames.specs.Lists.{Rooms, Listed}
use Rattle.model.specs.Records.{Table as Tableʳ}
use Rattle.texts.specs.Texts.{table_line}
use Rattle.store.specs.Strings.{string, span_of}
use Rattle.store.specs.View.{list_below, states_of, table_of, numbered}
use Rattle.store.specs.Order.{Within, one_more, of_table}
use Rattle.store.specs.Rows.{rows_in}
use Rattle.store.specs.declared.state.Table.{Table}
use Rattle.made.specs.Made.{reach_of}
use Rattle.readfacts.specs.Few.{most_values}
use Rattle.setting.specs.Orders.{holds_few, holds_long, holds_at, holds_next, holds_end}
use Rattle.tablelines.specs.Tables.{table_text, OfStates, OfTable, OfTables}

-- ---- one table

pub table_pieces : (o : Out) (name supplies states : Bytes) → emit o (format1 "PST {0} over [" name ⊕ supplies ⊕ ascii "]: " ⊕ states ⊕ ascii "\n") ≡ emit o (format3 "PST {0} over [{1}]: {2}\n" name supplies states)
unfolding emit writes turns arg pick
table_pieces o name supplies states = simp (emit-⊕, emit_fill)

module _ (files area : Bytes) (nums : List ℕ) (rows k : ℕ) (x : Table) (g : OfTable files area nums rows k x) where
  pub table_states : OfStates files area nums rows k
  table_states = g.states

  few_supplies : length (list (string (files ++ area) x.supplies)) ≤ 64
  few_supplies = omega (arith, g.few, length-map (list (string (files ++ area) x.supplies)) (scoped (string (files ++ area) x.scope)))

  module _ (table : List ℕ) where
    pub table_rooms : 320 ≤ length table → Rooms files area (span_of x.scope) (span_of x.supplies) table 0
    table_rooms room =
        record {
          held = held_by (length files) (length (files ++ area)) (span_of x.supplies) g.states.small (omega (arith, g.strings));
          scope_small = omega (arith, reach_end (length files) (span_of x.scope), g.strings, g.states.small);
          small = omega (arith, reach_end (length files) (span_of x.supplies), g.strings, g.states.small);
          rows = omega (arith, few_supplies);
          room = omega (arith, few_supplies, room);
        }

    module _ (table' : List ℕ) (n : ℕ) (l : Listed (files ++ area) table 0 (list_below (files ++ area) x.scope x.supplies) table' n) where
      pub table_few : n ≤ 65536
      table_few = omega (arith, l.count, g.few)

      pub table_is : (o o' : Out) → o' ≡ emit o (table_text (string (files ++ area) x.name) (table_names (files ++ area) table' n) (flat_map (states_of (files ++ area) k) (rows_in nums rows))) → o' ≡ emit o (table_line (table_of (files ++ area) (rows_in nums rows) k x))
      unfolding table_of
      table_is o o' h =
          let e : table_names (files ++ area) table' n ≡ list_below (files ++ area) x.scope x.supplies = l.are ∙ rw (names_none (files ++ area) table 0) in
          rw e at h

pub ruleset tables = (rules, table_states, table_rooms, table_few, table_is)

-- ---- all

within_numbered : {A B : Type 0} (f : ℕ → A → B) (e : B → ℕ) (n k : ℕ) (l : List A) (i : ℕ) (d : A) → Within e n (numbered f k l) → i < length l → e (f (k + i) (get_or l i d)) ≤ n
unfolding numbered
within_numbered f e n k [] i d w h = absurd (omega arith)
within_numbered f e n k (x ∷ l) zero d (one_more p w) h = let z : k + 0 ≡ k = omega arith in rw z p
within_numbered f e n k (x ∷ l) (suc i) d (one_more p w) h = let z : k + suc i ≡ k + 1 + i = omega arith in rw z (within_numbered f e n (k + 1) l i d w (omega arith))

numbered_first : {A B : Type 0} (f : ℕ → A → B) (k : ℕ) (x : A) (l : List A) → numbered f k (x ∷ l) ≡ f k x ∷ numbered f (k + 1) l
unfolding numbered
numbered_first f k x l = refl

numbered_none : {A B : Type 0} (f : ℕ → A → B) (k : ℕ) → numbered f k [] ≡ []
unfolding numbered
numbered_none f k = refl

pub record Lines (mem : Bytes) (nums : List ℕ) (rows : ℕ) (t : Few Table) (w o : Out) (i : ℕ) : Type 0 where
  pub keeps : emit o (each table_line (numbered (table_of mem (rows_in nums rows)) i (drop i (take t.n t.all)))) ≡ w

pub lines_start : (mem : Bytes) (nums : List ℕ) (rows : ℕ) (t : Few Table) (o : Out) → Lines mem nums rows t (emit o (each table_line (numbered (table_of mem (rows_in nums rows)) 0 (take t.n t.all)))) o 0
lines_start mem nums rows t o = record { keeps = refl }

pub few_tables : (files area : Bytes) (nums : List ℕ) (rows : ℕ) (t : Few Table) → OfTables files area nums rows t → t.n ≤ 32
few_tables files area nums rows t g = holds_few (of_table (reach_of (length files))) (length (files ++ area)) t.n t.all g.holds

pub ruleset indices = (rules, few_tables)

module _ (files area : Bytes) (nums : List ℕ) (rows : ℕ) (t : Few Table) (g : OfTables files area nums rows t) (i : ℕ) where
  abbrev mem : Bytes
  mem = files ++ area

  abbrev of : Table → ℕ
  of = of_table (reach_of (length files))

  abbrev made : ℕ → Table → Tableʳ
  made = table_of mem (rows_in nums rows)

  module _ (h : i < t.n) where
    module _ (d : Table) where
      in_take : i < length (take t.n t.all)
      in_take = rw (length-take-le t.n t.all (holds_long of (length mem) t.n t.all g.holds)) h

      same_at : get_or (take t.n t.all) i d ≡ get_or t.all i d
      same_at = get_or-take t.n t.all i d h

      lines_few : (e : Tableʳ → ℕ) (n : ℕ) → Within e n (numbered made 0 (take t.n t.all)) → e (made i (get_or t.all i d)) ≤ n
      lines_few e n w = let z : 0 + i ≡ i = omega arith in rw (z, same_at) at (within_numbered made e n 0 (take t.n t.all) i d w in_take)

      pub lines_table : OfTable files area nums rows i (get_or t.all i d)
      unfolding table_of
      lines_table =
          record {
            states = record { small = g.small; rows_few = g.rows_few; strings = g.strings; few = lines_few (λ (x : Tableʳ). most_values x.states) 64 g.states };
            strings = holds_at of (length mem) t.n t.all g.holds i d h;
            few = lines_few (λ (x : Tableʳ). length x.supplies) 64 g.supplies;
          }

      pub lines_next : (w o o' : Out) → Lines mem nums rows t w o i → o' ≡ emit o (table_line (made i (get_or t.all i d))) → Lines mem nums rows t w o' (i + 1)
      lines_next w o o' inv e =
          let x = get_or t.all i d in
          let q : each table_line (numbered made i (drop i (take t.n t.all))) ≡ table_line (made i x) ++ each table_line (numbered made (i + 1) (drop (i + 1) (take t.n t.all))) =
          ap (λ (l : List Table). each table_line (numbered made i l)) (holds_next of (length mem) t.n t.all g.holds i d h)
          ∙ ap (each table_line) (numbered_first made i x (drop (i + 1) (take t.n t.all)))
          ∙ each_cons table_line (made i x) (numbered made (i + 1) (drop (i + 1) (take t.n t.all))) in
          record { keeps = rw e (sym (emit_append o (table_line (made i x)) (each table_line (numbered made (i + 1) (drop (i + 1) (take t.n t.all))))) ∙ (ap (emit o) (sym q) ∙ inv.keeps)) }

  pub lines_done : (w o : Out) → Lines mem nums rows t w o i → t.n ≤ i → o ≡ w
  lines_done w o inv h =
      sym (each_none table_line o)
      ∙ (ap (λ (l : List Tableʳ). emit o (each table_line l)) (sym (ap (numbered made i) (holds_end of (length mem) t.n t.all g.holds i h) ∙ numbered_none made i)) ∙ inv.keeps)
