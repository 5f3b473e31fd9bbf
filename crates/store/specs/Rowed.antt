-- Laws: what a row more does to the view and the order of a state. Assumes nothing.
use Rattle.std.specs.Prelude.{ℕ, zero, suc, ◌+◌, ◌≤◌, ◌<◌, ◌≡◌, refl, Bool, cond, eqb, length, get_or, take}
use Rattle.std.proofs.Common.{arith, ◌∙◌, length-append}
use Rattle.std.proofs.Math.Nat.{zero-add}
use Rattle.std.proofs.Math.Path.{sym, ap}
use Rattle.std.proofs.Math.Bool.{true, false}
use mathlib.Core.List.{List, [], ◌∷◌, ◌++◌, flat_map, append-nil, append_assoc, map-append}
use Rattle.std.proofs.Math.ListN.{set}
use borrow.Author.Tests.{eq-eqb, ne_eqb, le-leb, lt-leb}
use Rattle.text.specs.Ascii.{Bytes}
use Rattle.tcl.specs.Lists.{list}
use Rattle.model.specs.Records.{TableState, Table as Tableʳ, with_connections, with_tables, with_warnings}
use Rattle.store.specs.Strings.{string}
use Rattle.store.specs.View.{Store, connections_of, states_of, warnings_in, warning_text, table_of, numbered, model_of}
use Rattle.store.specs.Order.{of_row, row_table, Shaped, Bounded}
use Rattle.store.specs.Added.{row_counted, warning_counted}
use Rattle.store.specs.Tables.{flat_append, within_snoc}
use Rattle.store.specs.declared.stored.Stored.{Stored}
use Rattle.store.specs.declared.row.Row.{Row}
use Rattle.store.specs.declared.state.Table.{Table}
use Rattle.store.specs.declared.state.State.{State}

-- a row more; none where its kind is 0
abbrev pub rowed : Store → Row → Store
rowed st r = record { rows = st.rows ++ (r ∷ []); words = st.words }

abbrev pub with_row : Store → Row → Store
with_row st r = cond (eqb r.kind 0) st (rowed st r)

warnings_append : (xs ys : List Row) → warnings_in (xs ++ ys) ≡ warnings_in xs ++ warnings_in ys
unfolding warnings_in
warnings_append [] ys = refl
warnings_append (x ∷ xs) ys = rw (warnings_append xs ys, append_assoc)

-- one more list of none
flat_none : {A B : Type 0} (f : A → List B) (xs : List A) (x : A) → f x ≡ [] → flat_map f (xs ++ (x ∷ [])) ≡ flat_map f xs
unfolding flat_map
flat_none f xs x e = flat_append f xs (x ∷ []) ∙ rw (e, append-nil)

flat_one : {A B : Type 0} (f : A → List B) (xs : List A) (x : A) → flat_map f (xs ++ (x ∷ [])) ≡ flat_map f xs ++ f x
unfolding flat_map
flat_one f xs x = flat_append f xs (x ∷ []) ∙ rw append-nil

numbered_is : {A B : Type 0} (f g : ℕ → A → B) (k : ℕ) (l : List A) → ((j : ℕ) (x : A) → g j x ≡ f j x) → numbered g k l ≡ numbered f k l
unfolding numbered
numbered_is f g k [] e = refl
numbered_is f g k (x ∷ l) e = rw (e k x, numbered_is f g (k + 1) l e)

-- those behind the i-th are the same
numbered_above : {A B : Type 0} (f g : ℕ → A → B) (i k : ℕ) (l : List A) → i < k → ((j : ℕ) (x : A) → (j ≡ i → ⊥) → g j x ≡ f j x) → numbered g k l ≡ numbered f k l
unfolding numbered
numbered_above f g i k [] h e = refl
numbered_above f g i k (x ∷ l) h e = rw (e k x (λ q. absurd (omega arith)), numbered_above f g i (k + 1) l (omega arith) e)

-- all but the one with the number k + i are the same
pub numbered_but : {A B : Type 0} (f g : ℕ → A → B) (k i : ℕ) (l : List A) (d : A) → i < length l → ((j : ℕ) (x : A) → (j ≡ k + i → ⊥) → g j x ≡ f j x) → numbered g k l ≡ set (numbered f k l) i (g (k + i) (get_or l i d))
unfolding numbered
numbered_but f g k i [] d h e = absurd (omega arith)
numbered_but f g k zero (x ∷ l) d h e =
    let q : k + 0 ≡ k = omega arith in
    rw (q, numbered_above f g k (k + 1) l (omega arith) (λ j y n. e j y (λ z. n (z ∙ q))))
numbered_but f g k (suc i) (x ∷ l) d h e =
    let q : k + suc i ≡ k + 1 + i = omega arith in
    rw (q, e k x (λ z. absurd (omega arith)), numbered_but f g (k + 1) i l d (omega arith) (λ j y n. e j y (λ z. n (z ∙ q))))

warning_none : (st : Store) (r : Row) → r.kind < 3 → warnings_in (st.rows ++ (r ∷ [])) ≡ warnings_in st.rows
unfolding warnings_in
warning_none st r h = warnings_append st.rows (r ∷ []) ∙ rw (lt-leb 3 r.kind h, append-nil)

warning_more : (st : Store) (r : Row) → 3 ≤ r.kind → warnings_in (st.rows ++ (r ∷ [])) ≡ warnings_in st.rows ++ (r ∷ [])
unfolding warnings_in
warning_more st r h = warnings_append st.rows (r ∷ []) ∙ rw (le-leb 3 r.kind h)

module _ (mem : Bytes) (st : Store) (s : State) (log : Bytes) (r : Row) where
  no_connections : (r.kind ≡ 1 → ⊥) → connections_of mem r ≡ []
  unfolding connections_of
  no_connections h = rw (ne_eqb r.kind 1 h)

  no_states : (k : ℕ) → (r.kind ≡ 2 → ⊥) → states_of mem k r ≡ []
  unfolding states_of
  no_states k h = rw (ne_eqb r.kind 2 h)

  other_states : (k : ℕ) → (k ≡ r.scope.at → ⊥) → (b : Bool) → eqb r.kind 2 ≡ b → states_of mem k r ≡ []
  unfolding states_of
  other_states k h true q = rw (q, ne_eqb r.scope.at k (λ e. h (sym e)))
  other_states k h false q = rw q

  its_state : r.kind ≡ 2 → states_of mem r.scope.at r ≡ record { name = string mem r.name; values = list (string mem r.value) } ∷ []
  unfolding states_of
  its_state h = rw (h, eq-eqb r.scope.at r.scope.at refl)

  same_table : (r.kind ≡ 2 → ⊥) → (k : ℕ) (t : Table) → table_of mem (st.rows ++ (r ∷ [])) k t ≡ table_of mem st.rows k t
  unfolding table_of
  same_table h k t = rw (flat_none (states_of mem k) st.rows r (no_states k h))

  same_tables : (r.kind ≡ 2 → ⊥) → numbered (table_of mem (st.rows ++ (r ∷ []))) 0 (take s.tables.n s.tables.all) ≡ numbered (table_of mem st.rows) 0 (take s.tables.n s.tables.all)
  same_tables h = numbered_is (table_of mem st.rows) (table_of mem (st.rows ++ (r ∷ []))) 0 (take s.tables.n s.tables.all) (same_table h)

  -- a connection
  pub connection_view : r.kind ≡ 1 → model_of mem (rowed st r) s log ≡ with_connections (model_of mem st s log) ((model_of mem st s log).connections ++ connections_of mem r)
  unfolding model_of
  connection_view h =
      let a : numbered (table_of mem (st.rows ++ (r ∷ []))) 0 (take s.tables.n s.tables.all) ≡ numbered (table_of mem st.rows) 0 (take s.tables.n s.tables.all) = same_tables (λ e. absurd (omega arith)) in
      let b : warnings_in (st.rows ++ (r ∷ [])) ≡ warnings_in st.rows = warning_none st r (omega arith) in
      rw (flat_one (connections_of mem) st.rows r, a, b)

  -- a warning
  pub warning_view : 3 ≤ r.kind → model_of mem (rowed st r) s log ≡ with_warnings (model_of mem st s log) ((model_of mem st s log).warnings ++ (warning_text mem r ∷ []))
  unfolding model_of
  warning_view h =
      let a : numbered (table_of mem (st.rows ++ (r ∷ []))) 0 (take s.tables.n s.tables.all) ≡ numbered (table_of mem st.rows) 0 (take s.tables.n s.tables.all) = same_tables (λ e. absurd (omega arith)) in
      let b : flat_map (connections_of mem) (st.rows ++ (r ∷ [])) ≡ flat_map (connections_of mem) st.rows = flat_none (connections_of mem) st.rows r (no_connections (λ e. absurd (omega arith))) in
      rw (a, b, warning_more st r h, map-append (warning_text mem) (warnings_in st.rows) (r ∷ []))

  -- a state of a table
  abbrev pub state_of : TableState
  state_of = record { name = string mem r.name; values = list (string mem r.value) }

  abbrev pub stated : Tableʳ → Tableʳ
  stated t = record { name = t.name; supplies = t.supplies; states = t.states ++ (state_of ∷ []) }

  other_table : (k : ℕ) (t : Table) → (k ≡ 0 + r.scope.at → ⊥) → table_of mem (st.rows ++ (r ∷ [])) k t ≡ table_of mem st.rows k t
  unfolding table_of
  other_table k t h = rw (flat_none (states_of mem k) st.rows r (other_states k (λ e. h (e ∙ sym (zero-add r.scope.at))) (eqb r.kind 2) refl))

  its_table : r.kind ≡ 2 → (t : Table) → table_of mem (st.rows ++ (r ∷ [])) r.scope.at t ≡ stated (table_of mem st.rows r.scope.at t)
  unfolding table_of
  its_table h t = rw (flat_one (states_of mem r.scope.at) st.rows r, its_state h)

  pub state_view : (d : Table) → r.kind ≡ 2 → r.scope.at < length (take s.tables.n s.tables.all) → model_of mem (rowed st r) s log ≡ with_tables (model_of mem st s log) (set (model_of mem st s log).tables r.scope.at (stated (table_of mem st.rows r.scope.at (get_or (take s.tables.n s.tables.all) r.scope.at d))))
  unfolding model_of
  state_view d h q =
      let a : numbered (table_of mem (st.rows ++ (r ∷ []))) 0 (take s.tables.n s.tables.all) ≡ set (numbered (table_of mem st.rows) 0 (take s.tables.n s.tables.all)) r.scope.at (stated (table_of mem st.rows r.scope.at (get_or (take s.tables.n s.tables.all) r.scope.at d))) =
      numbered_but (table_of mem st.rows) (table_of mem (st.rows ++ (r ∷ []))) 0 r.scope.at (take s.tables.n s.tables.all) d q other_table
      ∙ ap (set (numbered (table_of mem st.rows) 0 (take s.tables.n s.tables.all)) r.scope.at) (rw zero-add (its_table h (get_or (take s.tables.n s.tables.all) r.scope.at d))) in
      let b : flat_map (connections_of mem) (st.rows ++ (r ∷ [])) ≡ flat_map (connections_of mem) st.rows = flat_none (connections_of mem) st.rows r (no_connections (λ e. absurd (omega arith))) in
      let c : warnings_in (st.rows ++ (r ∷ [])) ≡ warnings_in st.rows = warning_none st r (omega arith) in
      rw (a, b, c)

-- ---- the order
module _ (st : Store) (s : State) (r : Row) (v : Shaped st s) where
  more_rows : length (st.rows ++ (r ∷ [])) ≡ s.fill.rows + 1
  more_rows = length-append st.rows (r ∷ []) ∙ rw v.rows

  pub row_shaped : r.kind < 3 → row_table r ≤ s.tables.n → Shaped (rowed st r) (row_counted s)
  row_shaped h q = record { scope = v.scope; domains = v.domains; nets = v.nets; ports = v.ports; switches = v.switches; isolations = v.isolations; retentions = v.retentions; shifters = v.shifters; portstates = v.portstates; tables = v.tables; long = v.long; variables = v.variables; switch_words = v.switch_words; port_words = v.port_words; row_tables = within_snoc row_table r v.row_tables q; rows = sym more_rows; words = v.words; warnings = v.warnings ∙ ap length (sym (warning_none st r h)); warned = v.warned }

  pub warning_shaped : 3 ≤ r.kind → s.fill.warnings < 256 → Shaped (rowed st r) (warning_counted s)
  warning_shaped h q =
      let y : row_table r ≡ 0 = rw (ne_eqb r.kind 2 (λ e. absurd (omega arith))) in
      let z : row_table r ≤ s.tables.n = omega (arith, y) in
      let w : s.fill.warnings + 1 ≡ length (warnings_in (st.rows ++ (r ∷ []))) = rw (warning_more st r h, length-append, v.warnings) in
      record { scope = v.scope; domains = v.domains; nets = v.nets; ports = v.ports; switches = v.switches; isolations = v.isolations; retentions = v.retentions; shifters = v.shifters; portstates = v.portstates; tables = v.tables; long = v.long; variables = v.variables; switch_words = v.switch_words; port_words = v.port_words; row_tables = within_snoc row_table r v.row_tables z; rows = sym more_rows; words = v.words; warnings = w; warned = omega arith }

module _ (e : Stored → ℕ) (n : ℕ) (st : Store) (s : State) (r : Row) (v : Bounded e n st s) where
  pub row_bounded : of_row e r ≤ n → Bounded e n (rowed st r) (row_counted s)
  row_bounded h = record { scope = v.scope; top = v.top; domains = v.domains; nets = v.nets; ports = v.ports; switches = v.switches; isolations = v.isolations; retentions = v.retentions; shifters = v.shifters; portstates = v.portstates; tables = v.tables; variables = v.variables; rows = within_snoc (of_row e) r v.rows h; words = v.words }

  pub warning_bounded : of_row e r ≤ n → Bounded e n (rowed st r) (warning_counted s)
  warning_bounded h = record { scope = v.scope; top = v.top; domains = v.domains; nets = v.nets; ports = v.ports; switches = v.switches; isolations = v.isolations; retentions = v.retentions; shifters = v.shifters; portstates = v.portstates; tables = v.tables; variables = v.variables; rows = within_snoc (of_row e) r v.rows h; words = v.words }
