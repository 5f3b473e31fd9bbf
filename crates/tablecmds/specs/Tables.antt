-- create_pst: what its words come to, and what it does. Assumes nothing.
use Rattle.std.specs.Prelude.{Option, Some, None}
use Rattle.std.specs.Prelude.{ℕ, ◌+◌, ◌≤◌, ◌<◌, max, ◌≡◌, Bool, eqb, length, take}
use Rattle.std.proofs.Common.{arith, sym, ap, ◌∙◌}
use Rattle.std.proofs.Math.Path.{refl}
use Rattle.std.proofs.Math.Bool.{true, false}
use mathlib.Core.List.{List, [], ◌∷◌, ◌++◌, map, flat_map}
use Rattle.std.proofs.Math.Seq.{length-take-le}
use borrow.Author.Tests.{ne_eqb}
use Rattle.text.specs.Ascii.{Bytes, ascii}
use Rattle.spans.specs.Span.{◌⋯◌, pairs}
use Rattle.spans.specs.Reach.{last_of, reach, none_reach}
use Rattle.spans.specs.declared.span.Span.{Span}
use Rattle.tcl.specs.Arguments.{option_of, name_of}
use Rattle.args.specs.View.{words_from, Reads, Finds}
use Rattle.model.specs.Scope.{scoped}
use Rattle.model.specs.Within.{records_fit}
use Rattle.store.specs.declared.stored.Stored.{Stored}
use Rattle.store.specs.declared.state.State.{State}
use Rattle.store.specs.Tables.{numbered_length}
use Rattle.store.specs.Variables.{now_fits}
use Rattle.made.specs.declared.Made.{Made}
use Rattle.made.specs.declared.Brief.{Brief}
use Rattle.made.specs.declared.Deed.TheVariants as deed
use Rattle.made.specs.Made.{brief_of, fine_made, full_made, reach_of, Ready, Did, Does}
use Rattle.made.specs.Dids.{one_over, did_full}
use Rattle.made.specs.Done.{did_state}
use Rattle.model.specs.Records.{Model, Table as Tableʳ, with_tables}
use Rattle.model.specs.Commands.{option_list, table_command}
use Rattle.store.specs.Strings.{string, span_of, stored_of, found_or}
use Rattle.store.specs.View.{Store, list_below, states_of, table_of, model_of}
use Rattle.store.specs.Order.{Within, none_left, one_more, of_table, row_table}
use Rattle.store.specs.Added.{table_added}
use Rattle.store.specs.Fits.{fit_tables}
use Rattle.store.specs.Steps.{table_view, table_shaped, table_bounded}
use Rattle.store.specs.declared.row.Row.{Row}
use Rattle.store.specs.declared.state.Table.{Table}
use Rattle.made.specs.Asked.{list_found, found_by_lem}

-- the table that the words name, in a scope; it has no states
unfoldable pub new_table : Bytes → List Bytes → Tableʳ
new_table scope ws = record { name = name_of ws; supplies = map (scoped scope) (option_list "-supplies" ws); states = [] }

pub record TableIs (mem : Bytes) (words : List ℕ) (n : ℕ) (scope : Stored) (r : Table) : Type 0 where
  pub name : string mem r.name ≡ name_of (words_from mem words n 1)
  pub supplies : list_below mem r.scope r.supplies ≡ map (scoped (string mem scope)) (option_list "-supplies" (words_from mem words n 1))
  pub within : (e : Span → ℕ) → e (0 ⋯ 0) ≡ 0 → of_table (λ s. e (span_of s)) r ≤ max (e (span_of scope)) (last_of e (pairs words 0 n))

-- ---- no row is a state of a table to come
module _ (mem : Bytes) (n k : ℕ) (h : n ≤ k) where
  row_none : (r : Row) → row_table r ≤ n → (b : Bool) → eqb r.kind 2 ≡ b → states_of mem k r ≡ []
  unfolding states_of
  row_none r p true q =
      let z : r.scope.at + 1 ≤ n = rw q at p in
      rw (q, ne_eqb r.scope.at k (λ e. absurd (omega arith)))
  row_none r p false q = rw q

  pub none_yet : {rows : List Row} → Within row_table n rows → flat_map (states_of mem k) rows ≡ []
  unfolding flat_map
  none_yet none_left = refl
  none_yet (one_more {x = r} {xs = rows} p b) = rw (row_none r p (eqb r.kind 2) refl, none_yet b)

module _ (mem : Bytes) (words : List ℕ) (n : ℕ) (scope : Stored) where
  pub table_is : (r : Span) (x : Stored) (f : Option Span) (y : Stored) → Reads mem words n (name_of (words_from mem words n 1)) r → x ≡ stored_of r → Finds mem words n (option_of (ascii "-supplies") (words_from mem words n 1)) f → y ≡ found_or f → TableIs mem words n scope (record { name = x; scope = scope; supplies = y })
  table_is r x f y p e q g =
      rw (e, g)
      (record {
        name = p.is;
        supplies = rw (list_found mem words n (option_of (ascii "-supplies") (words_from mem words n 1)) f q);
        within = λ d z. omega (arith, p.within d z, found_by_lem mem words n d z (option_of (ascii "-supplies") (words_from mem words n 1)) f q);
      })

  pub table_told : (d : Table) (rows : List Row) (k : ℕ) → TableIs mem words n scope d → Within row_table k rows → table_of mem rows k d ≡ new_table (string mem scope) (words_from mem words n 1)
  unfolding table_of new_table
  table_told d rows k a w = rw (a.name, a.supplies, none_yet mem k k (omega arith) w)

-- ---- the command
module _ (long : ℕ) (mem : Bytes) (words : List ℕ) (n : ℕ) (st : Store) (log : Bytes) (s : State) (v : Ready long mem words n st s) where
  abbrev ws : List Bytes
  ws = words_from mem words n 1

  abbrev now : Model
  now = model_of mem st s log

  abbrev more : List Tableʳ
  more = now.tables ++ (new_table now.scope ws ∷ [])

  told : table_command now ws ≡ with_tables now more
  unfolding table_command new_table
  told = refl

  count : length now.tables ≡ s.tables.n
  unfolding model_of
  count = numbered_length (table_of mem st.rows) 0 (take s.tables.n s.tables.all) ∙ length-take-le s.tables.n s.tables.all (omega (arith, v.shaped.tables.long, v.shaped.tables.count))

  scope_is_lem : now.scope ≡ string mem s.head.scope
  unfolding model_of
  scope_is_lem = refl

  pub table_full : (r : Made) → 32 ≤ s.tables.n → r ≡ full_made s → Did long mem st log s r (table_command now ws)
  table_full r h e =
      rw e
      (did_full long mem st log s v.shaped v.bounded (table_command now ws)
      (ap records_fit told ∙ fit_tables now (now_fits mem st s log v.shaped) more ∙ one_over now.tables (new_table now.scope ws) s.tables.n 32 count h))

  pub table_fine : (d : Table) (u : State) (r : Made) → s.tables.n < 32 → TableIs mem words n s.head.scope d → u ≡ table_added s d → r ≡ fine_made u → Did long mem st log s r (table_command now ws)
  table_fine d u r h a e g =
      let l : s.tables.n < length s.tables.all = omega (arith, v.shaped.tables.long) in
      rw (g, e)
      (did_state long mem st log s v.shaped v.bounded (table_added s d) (table_command now ws)
      (table_view mem st s log d l ∙ ap (λ (y : Tableʳ). with_tables now (now.tables ++ (y ∷ []))) (table_told mem words n s.head.scope d st.rows s.tables.n a v.shaped.row_tables ∙ ap (λ (z : Bytes). new_table z ws) (sym scope_is_lem)) ∙ sym told)
      (table_shaped st s v.shaped d h)
      (table_bounded (reach_of long) (length mem) st s v.bounded d l (omega (arith, a.within (reach long) (none_reach long), v.line, v.bounded.scope)))
      (record { count = refl; scope = refl; end = refl; log = refl; words = refl }))

-- ---- its deed
module _ (files area : Bytes) (words : List ℕ) (n : ℕ) (b : Brief) where
  abbrev does : Model → Model
  does m = table_command m (words_from (files ++ area) words n 1)

  pub tables_full : 32 ≤ b.tables → Does files area words n (λ (s : State). brief_of s ≡ b) deed.Full does
  tables_full h s e = record { fits = tt; did = λ st log v. table_full (length files) (files ++ area) words n st log s v (full_made s) (omega (arith, ap (λ (z : Brief). z.tables) e)) refl }

  pub tables_more : (d : Table) → b.tables < 32 → TableIs (files ++ area) words n b.scope d → Does files area words n (λ (s : State). brief_of s ≡ b) (deed.Table d) does
  tables_more d h a s e =
      let k : TableIs (files ++ area) words n s.head.scope d = rw (ap (λ (z : Brief). z.scope) e) a in
      record { fits = omega (arith, ap (λ (z : Brief). z.tables) e); did = λ st log v. table_fine (length files) (files ++ area) words n st log s v d (table_added s d) (fine_made (table_added s d)) (omega (arith, ap (λ (z : Brief). z.tables) e)) k refl refl }
