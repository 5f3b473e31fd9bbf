-- add_pst_state: the first table of a name, and what the command does. Assumes nothing.
use Rattle.store.specs.declared.state.Few.{Few}
use Rattle.std.specs.Prelude.{Option}
use Rattle.std.specs.Prelude.{ℕ, zero, suc, ◌+◌, ◌≤◌, ◌<◌, ◌≡◌, Bool, List, [], ◌∷◌, ◌++◌, length, get_or, set, take, None, Some}
use Rattle.std.proofs.Common.{arith, ◌∙◌, length-take-le}
use Rattle.std.proofs.Math.Nat.{zero-add}
use Rattle.std.proofs.Math.Path.{refl, sym, ap}
use Rattle.text.specs.Ascii.{Bytes, ascii}
use Rattle.text.specs.Compare.{same}
use Rattle.spans.specs.Reach.{reach, none_reach}
use Rattle.spans.specs.declared.span.Span.{Span}
use Rattle.tcl.specs.Arguments.{option_of, name_of}
use Rattle.args.specs.View.{words_from, Reads, Finds}
use Rattle.model.specs.Records.{Model, Table as Tableʳ, with_tables}
use Rattle.model.specs.Commands.{on_first, warned, with_state, table_state_command}
use Rattle.model.specs.Commands.{table_of as table_named}
use Rattle.store.specs.Strings.{no_string, string, stored_of, found_or}
use Rattle.store.specs.View.{Store, numbered, table_of, text_of, model_of}
use Rattle.store.specs.Added.{row_counted}
use Rattle.store.specs.Tables.{numbered_length}
use Rattle.store.specs.First.{first_at, first_hit, first_miss}
use Rattle.store.specs.Rowed.{rowed, state_view, row_shaped, row_bounded}
use Rattle.store.specs.declared.stored.Stored.{Stored}
use Rattle.store.specs.declared.row.Row.{Row}
use Rattle.store.specs.declared.state.Table.{Table}
use Rattle.store.specs.declared.state.State.{State}
use Rattle.made.specs.declared.Made.{Made}
use Rattle.made.specs.declared.Brief.{Brief}
use Rattle.made.specs.declared.Deed.TheVariants as deed
use Rattle.made.specs.Made.{brief_of, row_made, warned_made, reach_of, Ready, Did, Does}
use Rattle.made.specs.Dids.{did_warn}
use Rattle.made.specs.Done.{did_row}
use Rattle.made.specs.Asked.{list_found, or_found, found_by_lem}

-- whether a stored table has the name
abbrev pub is_named : Bytes → Stored → Table → Bool
is_named mem name t = same (string mem t.name) (string mem name)

abbrev pub no_table : Table
no_table = record { name = no_string; scope = no_string; supplies = no_string }

-- and a table of the records
abbrev named : List Bytes → Tableʳ → Bool
named ws t = same t.name (table_named ws)

-- ---- numbered records
first_numbered : {A B : Type 0} (f : ℕ → A → B) (t : B → Bool) (u : A → Bool) → ((k : ℕ) (x : A) → u x ≡ t (f k x)) → (k : ℕ) (l : List A) → first_at t (numbered f k l) ≡ first_at u l
unfolding first_at numbered
first_numbered f t u e k [] = refl
first_numbered f t u e k (x ∷ l) = rw (e k x, first_numbered f t u e (k + 1) l)

numbered_get : {A B : Type 0} (f : ℕ → A → B) (k : ℕ) (l : List A) (i : ℕ) (d : A) (z : B) → i < length l → get_or (numbered f k l) i z ≡ f (k + i) (get_or l i d)
unfolding numbered
numbered_get f k [] i d z h = absurd (omega arith)
numbered_get f k (x ∷ l) zero d z h = let e : k + 0 ≡ k = omega arith in rw e
numbered_get f k (x ∷ l) (suc i) d z h = let e : k + suc i ≡ k + 1 + i = omega arith in rw e (numbered_get f (k + 1) l i d z (omega arith))

module _ (long : ℕ) (mem : Bytes) (words : List ℕ) (n : ℕ) (st : Store) (log : Bytes) (s : State) (v : Ready long mem words n st s) where
  abbrev ws : List Bytes
  ws = words_from mem words n 1

  abbrev now : Model
  now = model_of mem st s log

  abbrev kept : List Table
  kept = take s.tables.n s.tables.all

  kept_long : length kept ≡ s.tables.n
  kept_long = length-take-le s.tables.n s.tables.all (omega (arith, v.shaped.tables.long, v.shaped.tables.count))

  count : length now.tables ≡ s.tables.n
  unfolding model_of
  count = numbered_length (table_of mem st.rows) 0 kept ∙ kept_long

  -- the code finds the table that is meant
  module _ (o : Option Span) (x : Stored) (a : Finds mem words n (option_of (ascii "-pst") ws) o) (e : x ≡ found_or o) where
    name_is : string mem x ≡ table_named ws
    name_is = rw e (or_found mem words n (option_of (ascii "-pst") ws) o a)

    first_is : first_at (named ws) now.tables ≡ first_at (is_named mem x) kept
    unfolding model_of table_of
    first_is = first_numbered (table_of mem st.rows) (named ws) (is_named mem x) (λ k t. ap (same (string mem t.name)) name_is) 0 kept

    module _ (i : ℕ) (f : i ≡ first_at (is_named mem x) kept) where
      told_none : s.tables.n ≤ i → table_state_command now ws ≡ warned now (text_of 6 (string mem x))
      unfolding table_state_command text_of
      told_none h =
          let q : on_first (named ws) (with_state ws) now.tables ≡ None = first_miss (named ws) (with_state ws) now.tables (omega (arith, count, first_is)) in
          rw (q, name_is)

      pub state_warned : (m : Made) → s.tables.n ≤ i → m ≡ warned_made s 6 x → Did long mem st log s m (table_state_command now ws)
      state_warned m h g =
          rw (g, told_none h)
          (did_warn long mem st log s v.shaped v.bounded 6 x (omega arith) (omega arith)
          (rw e (omega (arith, found_by_lem mem words n (reach long) (none_reach long) (option_of (ascii "-pst") ws) o a, v.line))))

      module _ (z : Table) (h : i < s.tables.n) (r : Span) (g : Option Span) (b : Reads mem words n (name_of ws) r) (q : Finds mem words n (option_of (ascii "-state") ws) g) where
        abbrev row : Row
        row = record { kind = 2; scope = record { at = i; len = 0 }; name = stored_of r; value = found_or g }

        at_is : get_or now.tables i (table_of mem st.rows i z) ≡ table_of mem st.rows i (get_or kept i z)
        unfolding model_of
        at_is = numbered_get (table_of mem st.rows) 0 kept i z (table_of mem st.rows i z) (omega (arith, kept_long)) ∙ rw zero-add

        told_some : table_state_command now ws ≡ with_tables now (set now.tables i (with_state ws (table_of mem st.rows i (get_or kept i z))))
        unfolding table_state_command
        told_some =
            let k : first_at (named ws) now.tables ≡ i = first_is ∙ sym f in
            let p : on_first (named ws) (with_state ws) now.tables ≡ Some (set now.tables (first_at (named ws) now.tables) (with_state ws (get_or now.tables (first_at (named ws) now.tables) (table_of mem st.rows i z)))) = first_hit (named ws) (with_state ws) now.tables (table_of mem st.rows i z) (omega (arith, count, k)) in
            rw (p, k, at_is)

        row_view : model_of mem (rowed st row) (row_counted s) log ≡ table_state_command now ws
        unfolding model_of
        row_view =
            state_view mem st (row_counted s) log row z refl (omega (arith, kept_long))
            ∙ ap (λ (y : Tableʳ). with_tables now (set now.tables i y)) (λ j. record { name = (table_of mem st.rows i (get_or kept i z)).name; supplies = (table_of mem st.rows i (get_or kept i z)).supplies; states = (table_of mem st.rows i (get_or kept i z)).states ++ (record { name = b.is j; values = list_found mem words n (option_of (ascii "-state") ws) g q j } ∷ []) })
            ∙ sym told_some

        pub state_fine : (y w : Stored) (m : Made) → y ≡ stored_of r → w ≡ found_or g → m ≡ row_made s (record { kind = 2; scope = record { at = i; len = 0 }; name = y; value = w }) → Did long mem st log s m (table_state_command now ws)
        state_fine y w m ey ew em =
            rw (em, ey, ew)
            (did_row long mem st log s v.shaped v.bounded row (table_state_command now ws) (omega arith) row_view
            (row_shaped st s row v.shaped (omega arith) (omega arith))
            (row_bounded (reach_of long) (length mem) st s row v.bounded (omega (arith, v.line, b.within (reach long) (none_reach long), found_by_lem mem words n (reach long) (none_reach long) (option_of (ascii "-state") ws) g q)))
            (record { kind = omega arith; at = omega (arith, v.shaped.tables.count); len = omega arith }))

-- ---- its deed
module _ (files area : Bytes) (words : List ℕ) (n : ℕ) (b : Brief) (t : Few Table) (o : Option Span) (x : Stored) (i : ℕ) where
  abbrev all_words : List Bytes
  all_words = words_from (files ++ area) words n 1

  abbrev does : Model → Model
  does m = table_state_command m all_words

  pub states_warned : Finds (files ++ area) words n (option_of (ascii "-pst") all_words) o → x ≡ found_or o → i ≡ first_at (is_named (files ++ area) x) (take t.n t.all) → t.n ≤ i → Does files area words n (λ (s : State). (brief_of s ≡ b) × (s.tables ≡ t)) (deed.Warning 6 x) does
  states_warned a e f h s k =
      let f' : i ≡ first_at (is_named (files ++ area) x) (take s.tables.n s.tables.all) = rw k.1 f in
      let h' : s.tables.n ≤ i = rw k.1 h in
      record { fits = tt; did = λ st log v. state_warned (length files) (files ++ area) words n st log s v o x a e i f' (warned_made s 6 x) h' refl }

  pub states_more : (r : Span) (g : Option Span) (y w : Stored) → Finds (files ++ area) words n (option_of (ascii "-pst") all_words) o → x ≡ found_or o → i ≡ first_at (is_named (files ++ area) x) (take t.n t.all) → i < t.n → Reads (files ++ area) words n (name_of all_words) r → Finds (files ++ area) words n (option_of (ascii "-state") all_words) g → y ≡ stored_of r → w ≡ found_or g → Does files area words n (λ (s : State). (brief_of s ≡ b) × (s.tables ≡ t)) (deed.Row (record { kind = 2; scope = record { at = i; len = 0 }; name = y; value = w })) does
  states_more r g y w a e f h p q ey ew s k =
      let f' : i ≡ first_at (is_named (files ++ area) x) (take s.tables.n s.tables.all) = rw k.1 f in
      let h' : i < s.tables.n = rw k.1 h in
      record { fits = tt; did = λ st log v. state_fine (length files) (files ++ area) words n st log s v o x a e i f' no_table h' r g p q y w (row_made s (record { kind = 2; scope = record { at = i; len = 0 }; name = y; value = w })) ey ew refl }
