-- The warnings and their number: laws as the needs of `warnings_by` and `tail` ask them. Assumes nothing.
use Rattle.store.specs.declared.state.Few.{Few}
use Rattle.store.specs.declared.state.Shifter.{Shifter}
use Rattle.store.specs.declared.state.Switch.{Switch}
use Rattle.store.specs.declared.state.Table.{Table}
use Prim.Native.Nat.{ℕ, ◌+◌, ◌≤◌, ◌^◌}
use native.Mathlib.Omega.{arith}
use mathlib.Core.Path.{◌≡◌, refl, sym, ap, subst, ◌∙◌}
use mathlib.Core.Bool.{true, false}
use mathlib.Core.List.{List, [], ◌∷◌, ◌++◌, map, flat_map}
use lib.ListN.{length, take}
use borrow.Author.Rules.{rules}
use Rattle.text.specs.Ascii.{Bytes}
use Rattle.out.specs.Emit.{Out, ◌▸◌, emit}
use Rattle.out.specs.Items.{each}
use Rattle.joblines.specs.Job.{Module}
use Rattle.jobindex.specs.Index.{module_row}
use Rattle.lookup.specs.Rows.{modules}
use Rattle.scope.specs.Parts.{parts}
use Rattle.store.specs.View.{domain_of, shifter_of, table_of, numbered, warnings_in, warning_text}
use Rattle.store.specs.Rows.{rows_in, store_of}
use Rattle.store.specs.Order.{of_shifter}
use Rattle.store.specs.declared.state.State.{State}
use Rattle.store.specs.declared.state.Fill.{Fill}
use Rattle.store.specs.declared.state.Domain.{Domain}
use Rattle.made.specs.Made.{reach_of}
use Rattle.texts.specs.Isolation as texts
use Rattle.texts.specs.Setting.{Setting}
use Rattle.texts.specs.Switches.{switch_warnings}
use Rattle.texts.specs.Texts.{warnings_of, shifter_line, table_line, warning_line}
use Rattle.setting.specs.Orders.{Holds, shifters_hold}
use Rattle.setting.specs.Stands.{Stands}
use Rattle.conditions.specs.Controls.{scope_setting}
use Rattle.switches.specs.Asked.{OfSwitches, orders_switches}
use Rattle.switches.specs.Words.{switch_in}
use Rattle.switches.specs.Texts as switches
use Rattle.switches.specs.Seen.{remarks_stand}
use Rattle.reportlines.specs.Lines.{shifters_seen, warnings_seen, warnings_count}
use Rattle.tablelines.specs.Tables.{OfTables}
use Rattle.tablelines.specs.Seen.{orders_tables, tables_seen}
use Rattle.domainwarnings.specs.Missing as domains
use Rattle.generate.specs.declared.tail.Warned.{Warned}
use Rattle.keep.specs.declared.Cover.{Cover}
use Rattle.isolation.specs.Asked.{Isolated}
use Rattle.generate.specs.Generates.{Asks}
use Rattle.generate.specs.Pieces.{domain_remarks, warning_pieces, warning_count}
use Rattle.generate.specs.Steps.{AllIsolated, Warns, QuietWarned, AllWarned, AllRemarked, before_warnings, AllTailed}

-- ---- what is asked

module _ (job : Bytes) (nums : List ℕ) (count k : ℕ) (files area path : Bytes) (s : State) (a : Asks job nums count k files area path s) where
  pub rows_few : (f : Fill) → f ≡ s.fill → f.rows ≤ 1024
  rows_few f e = rw e a.orders.rows

  pub switches_asked : (xs : Few Switch) → xs ≡ s.switches → OfSwitches files area nums xs
  switches_asked xs e = rw e (orders_switches files area nums s a.orders)

  pub warned_low : (f : Fill) → f ≡ s.fill → f.warnings ≤ 2 ^ 58
  warned_low f e = rw e (omega (arith, a.orders.shaped.warned))

  pub domains_asked : (xs : Few Domain) → xs ≡ s.domains → domains.OfDomains files area xs
  domains_asked xs e = rw e (domains.orders_domains files area nums s a.orders)

  pub shifters_asked : (xs : Few Shifter) → xs ≡ s.shifters → Holds (of_shifter (reach_of (length files))) (length (files ++ area)) xs.n xs.all
  shifters_asked xs e = rw e (shifters_hold files area nums s a.orders)

  pub tables_asked : (f : Fill) (xs : Few Table) → f ≡ s.fill → xs ≡ s.tables → OfTables files area nums f.rows xs
  tables_asked f xs ef e = rw (ef, e) (orders_tables files area nums s a.orders)

-- the sum is small
pub sum_low : (n b c : ℕ) (o o' : Out) (ws : List Bytes) → switches.Told (2 ^ 54) o n ws o' b → n ≤ 2 ^ 58 → c ≤ 513 → b + c ≤ 2 ^ 60
sum_low n b c o o' ws t h g = omega (arith, t.few)

pub part_low : (n b : ℕ) (o o' : Out) (ws : List Bytes) → switches.Told (2 ^ 54) o n ws o' b → n ≤ 2 ^ 58 → b ≤ 2 ^ 60
part_low n b o o' ws t h = omega (arith, t.few)

-- what is told, where the places are spelled otherwise
pub switches_by : (most : ℕ) (o o' q q' : Out) (n n' : ℕ) (ws : List Bytes) → switches.Told most o n ws o' n' → q ≡ o → q' ≡ o' → switches.Told most q n ws q' n'
switches_by most o o' q q' n n' ws h e f = rw (e, f) h

pub domains_by : (most : ℕ) (o o' q q' : Out) (n n' : ℕ) (ws : List Bytes) → domains.Told most o n ws o' n' → q ≡ o → q' ≡ o' → domains.Told most q n ws q' n'
domains_by most o o' q q' n n' ws h e f = rw (e, f) h

-- ---- what is told
module _ (job : Bytes) (nums : List ℕ) (count k : ℕ) (files area path : Bytes) (from : ℕ) (top : Bytes) (s : State) (g : Asks job nums count k files area path s) where
  -- more ports than are allowed: there are not
  pub warned_over : (o o₂ : Out) (out : Bytes) (ports : List ℕ) (c : Cover) (report : Bytes) (r : Warned) → AllIsolated job nums count k files area s true o₂ out ports c → c.over ≡ true → AllWarned job nums count k files area path from top s o report r
  warned_over o o₂ out ports c report r h q t st few = absurd (omega (arith, (h path from top t st).over q, few))

  module _ (t : Setting) (st : Stands job nums count k files area path from top s t) where
    read_told : (f : Fill) → f ≡ s.fill → each warning_line (map (warning_text (files ++ area)) (warnings_in (rows_in nums f.rows))) ≡ each warning_line t.records.warnings
    read_told f e = ap (λ (x : Fill). each warning_line (map (warning_text (files ++ area)) (warnings_in (rows_in nums x.rows)))) e ∙ warnings_seen (files ++ area) (store_of nums s) s t.records.log t st.records_are

    switch_told : (xs : Few Switch) → xs ≡ s.switches → switches.remarks (scope_setting (parts path from)) (map (switch_in (files ++ area) nums) (take xs.n xs.all)) ≡ switch_warnings t
    switch_told xs e =
        ap (λ (x : Few Switch). switches.remarks (scope_setting (parts path from)) (map (switch_in (files ++ area) nums) (take x.n x.all))) e
        ∙ remarks_stand job nums count k files area path from top s t st g.orders

    domain_told : (xs : Few Domain) → xs ≡ s.domains → flat_map (λ (d : Domain). domains.remarks (modules job nums count) (module_row job nums k) (domain_of (files ++ area) d)) (take xs.n xs.all) ≡ domain_remarks t
    domain_told xs e =
        ap (λ (x : Few Domain). flat_map (λ (d : Domain). domains.remarks (modules job nums count) (module_row job nums k) (domain_of (files ++ area) d)) (take x.n x.all)) e
        ∙ ap (λ (l : List Module). flat_map (λ (d : Domain). domains.remarks l (module_row job nums k) (domain_of (files ++ area) d)) (take s.domains.n s.domains.all)) (sym st.design_is)
        ∙ ap (λ (m : Module). flat_map (λ (d : Domain). domains.remarks t.design m (domain_of (files ++ area) d)) (take s.domains.n s.domains.all)) (sym st.base_is)
        ∙ sym (domains.remarks_seen (files ++ area) (store_of nums s) s t.records.log t st.records_are)

  pub all_warned : (f : Fill) → f ≡ s.fill → (xs : Few Switch) → xs ≡ s.switches → (ds : Few Domain) → ds ≡ s.domains → (o o₁ o₂ : Out) (b : ℕ) (out : Bytes) (ports : List ℕ) (c : Cover) (report : Bytes) (r : Warned)
      → o₁ ≡ emit o (each warning_line (map (warning_text (files ++ area)) (warnings_in (rows_in nums f.rows))))
      → switches.Told (2 ^ 54) o₁ f.warnings (switches.remarks (scope_setting (parts path from)) (map (switch_in (files ++ area) nums) (take xs.n xs.all))) o₂ b
      → AllIsolated job nums count k files area s true o₂ out ports c
      → c.over ≡ false
      → domains.Told 2080 (out ▸ c.at) (b + c.warnings) (flat_map (λ (d : Domain). domains.remarks (modules job nums count) (module_row job nums k) (domain_of (files ++ area) d)) (take ds.n ds.all)) (report ▸ r.at) r.count
      → AllWarned job nums count k files area path from top s o report r
  all_warned f ef xs ex ds ed o o₁ o₂ b out ports c report r e₁ e₂ h q e₄ t st few =
      let i : Isolated t job (files ++ area) s.isolations true o₂ out ports c = h path from top t st in
      let w₁ : o₁ ≡ emit o (each warning_line t.records.warnings) = e₁ ∙ ap (emit o) (read_told t st f ef) in
      let w₂ : o₂ ≡ emit o₁ (each warning_line (switch_warnings t)) = e₂.text ∙ ap (λ (l : List Bytes). emit o₁ (each warning_line l)) (switch_told t st xs ex) in
      let w₄ : report ▸ r.at ≡ emit (out ▸ c.at) (each warning_line (domain_remarks t)) = e₄.text ∙ ap (λ (l : List Bytes). emit (out ▸ c.at) (each warning_line l)) (domain_told t st ds ed) in
      let n₁ : f.warnings ≡ length t.records.warnings = ap (λ (x : Fill). x.warnings) ef ∙ sym (warnings_count (files ++ area) (store_of nums s) s t.records.log t st.records_are g.orders.shaped) in
      let n₂ : b ≡ f.warnings + length (switch_warnings t) = e₂.count ∙ ap (λ (l : List Bytes). f.warnings + length l) (switch_told t st xs ex) in
      let n₄ : r.count ≡ b + c.warnings + length (domain_remarks t) = e₄.count ∙ ap (λ (l : List Bytes). b + c.warnings + length l) (domain_told t st ds ed) in
      let n : f.warnings + (length (switch_warnings t) + (length (texts.isolation t).warnings + length (domain_remarks t))) ≡ length (warnings_of t) = warning_count t f.warnings (length (switch_warnings t)) (length (texts.isolation t).warnings) (length (domain_remarks t)) n₁ refl refl refl in
      record {
        text = warning_pieces t o o₁ o₂ (out ▸ c.at) (report ▸ r.at) w₁ w₂ (i.text q) w₄;
        few = λ l. omega (arith, n, n₂, n₄, i.count q, l);
        many = λ l. omega (arith, n, n₂, n₄, i.count q, l);
      }

  -- the same where isolation has none
  no_lines : (t : Setting) (o : Out) (ws : List Bytes) → length ws ≡ 0 → o ≡ emit o (each warning_line ws)
  unfolding emit each
  no_lines t o [] e = refl
  no_lines t o (w ∷ ws) e = absurd (omega arith)

  pub all_quiet : (f : Fill) → f ≡ s.fill → (xs : Few Switch) → xs ≡ s.switches → (ds : Few Domain) → ds ≡ s.domains → (o o₁ o₂ : Out) (b : ℕ) (report : Bytes) (r : Warned)
      → o₁ ≡ emit o (each warning_line (map (warning_text (files ++ area)) (warnings_in (rows_in nums f.rows))))
      → switches.Told (2 ^ 54) o₁ f.warnings (switches.remarks (scope_setting (parts path from)) (map (switch_in (files ++ area) nums) (take xs.n xs.all))) o₂ b
      → domains.Told 2080 o₂ b (flat_map (λ (d : Domain). domains.remarks (modules job nums count) (module_row job nums k) (domain_of (files ++ area) d)) (take ds.n ds.all)) (report ▸ r.at) r.count
      → QuietWarned job nums count k files area path from top s o report r
  all_quiet f ef xs ex ds ed o o₁ o₂ b report r e₁ e₂ e₄ t st none =
      let w₁ : o₁ ≡ emit o (each warning_line t.records.warnings) = e₁ ∙ ap (emit o) (read_told t st f ef) in
      let w₂ : o₂ ≡ emit o₁ (each warning_line (switch_warnings t)) = e₂.text ∙ ap (λ (l : List Bytes). emit o₁ (each warning_line l)) (switch_told t st xs ex) in
      let w₄ : report ▸ r.at ≡ emit o₂ (each warning_line (domain_remarks t)) = e₄.text ∙ ap (λ (l : List Bytes). emit o₂ (each warning_line l)) (domain_told t st ds ed) in
      let n₁ : f.warnings ≡ length t.records.warnings = ap (λ (x : Fill). x.warnings) ef ∙ sym (warnings_count (files ++ area) (store_of nums s) s t.records.log t st.records_are g.orders.shaped) in
      let n₂ : b ≡ f.warnings + length (switch_warnings t) = e₂.count ∙ ap (λ (l : List Bytes). f.warnings + length l) (switch_told t st xs ex) in
      let n₄ : r.count ≡ b + length (domain_remarks t) = e₄.count ∙ ap (λ (l : List Bytes). b + length l) (domain_told t st ds ed) in
      let n : f.warnings + (length (switch_warnings t) + (length (texts.isolation t).warnings + length (domain_remarks t))) ≡ length (warnings_of t) = warning_count t f.warnings (length (switch_warnings t)) (length (texts.isolation t).warnings) (length (domain_remarks t)) n₁ refl refl refl in
      record {
        text = warning_pieces t o o₁ o₂ o₂ (report ▸ r.at) w₁ w₂ (no_lines t o₂ (texts.isolation t).warnings none) w₄;
        few = λ l. omega (arith, n, n₂, n₄, none, l);
        many = λ l. omega (arith, n, n₂, n₄, none, l);
      }

  -- ---- by their number
  pub remarked_none : (n : ℕ) (o : Out) (report : Bytes) (r : Warned) → n ≡ 0 → QuietWarned job nums count k files area path from top s o report r → AllRemarked n job nums count k files area path from top s o report r
  remarked_none n o report r e h t st few q = h t st (omega (arith, e, q))

  pub remarked_all : (n : ℕ) (o : Out) (report : Bytes) (r : Warned) → AllWarned job nums count k files area path from top s o report r → AllRemarked n job nums count k files area path from top s o report r
  remarked_all n o report r h t st few q = h t st few

  -- ---- the end of the report
  pub all_tailed : (n : ℕ) (f : Fill) → f ≡ s.fill → (xs : Few Shifter) → xs ≡ s.shifters → (ts : Few Table) → ts ≡ s.tables → (o o₁ o₂ : Out) (report : Bytes) (r : Warned)
      → o₁ ≡ emit o (each shifter_line (map (shifter_of (files ++ area)) (take xs.n xs.all)))
      → o₂ ≡ emit o₁ (each table_line (numbered (table_of (files ++ area) (rows_in nums f.rows)) 0 (take ts.n ts.all)))
      → AllRemarked n job nums count k files area path from top s o₂ report r
      → AllTailed n job nums count k files area path from top s o report r
  all_tailed n f ef xs ex ts et o o₁ o₂ report r e₁ e₂ h t st few q =
      let w₁ : o₁ ≡ emit o (each shifter_line t.records.shifters) =
      e₁
      ∙ ap (λ (x : Few Shifter). emit o (each shifter_line (map (shifter_of (files ++ area)) (take x.n x.all)))) ex
      ∙ ap (emit o) (shifters_seen (files ++ area) (store_of nums s) s t.records.log t st.records_are) in
      let w₂ : o₂ ≡ before_warnings t o =
      e₂
      ∙ ap (λ (x : Fill). emit o₁ (each table_line (numbered (table_of (files ++ area) (rows_in nums x.rows)) 0 (take ts.n ts.all)))) ef
      ∙ ap (λ (x : Few Table). emit o₁ (each table_line (numbered (table_of (files ++ area) (rows_in nums s.fill.rows)) 0 (take x.n x.all)))) et
      ∙ ap (emit o₁) (tables_seen (files ++ area) nums s t.records.log t st.records_are)
      ∙ ap (λ (x : Out). emit x (each table_line t.records.tables)) w₁ in
      subst (λ (x : Out). Warns t x report r) w₂ (h t st few q)

pub ruleset remarked = (rules, remarked_none, remarked_all)
