-- What stands in front, for a setting: laws as the needs of `report_front` and `glue_front` ask them. Assumes nothing.
use Rattle.store.specs.declared.state.Few.{Few}
use Rattle.store.specs.declared.state.Isolation.{Isolation}
use Rattle.store.specs.declared.state.Switch.{Switch}
use Prim.Native.Nat.{ℕ, ◌+◌, ◌*◌}
use mathlib.Core.Path.{◌≡◌, sym, ap, ◌∙◌}
use mathlib.Core.List.{List, [], ◌++◌, map}
use lib.ListN.{take, drop, get_or}
use Rattle.text.specs.Ascii.{Bytes}
use Rattle.out.specs.Emit.{Out, emit}
use Rattle.out.specs.Items.{each}
use Rattle.nametable.specs.Table.{table_names}
use Rattle.jobindex.specs.Index.{module_row}
use Rattle.joblines.specs.Job.{Module}
use Rattle.scope.specs.Parts.{parts}
use Rattle.store.specs.View.{switch_of, model_of}
use Rattle.store.specs.Rows.{store_of}
use Rattle.store.specs.declared.state.State.{State}
use Rattle.texts.specs.Isolation as texts
use Rattle.texts.specs.Setting.{Setting}
use Rattle.texts.specs.Supplies.{supply_nets, net_blocks}
use Rattle.texts.specs.Switches.{switch_glue, switch_line}
use Rattle.texts.specs.Texts.{package_of, scope_line}
use Rattle.setting.specs.Orders.{Orders}
use Rattle.setting.specs.Stands.{Stands}
use Rattle.supplies.specs.Nets.{Names}
use Rattle.supplies.specs.Seen.{nets_setting, nets_stand, blocks_stand, package_stand}
use Rattle.conditions.specs.Controls.{scope_setting}
use Rattle.switches.specs.Words.{switch_in}
use Rattle.switches.specs.Seen.{lines_stand, glue_stands}
use Rattle.reportlines.specs.Lines.{scope_text, scope_is_lem}
use Rattle.isolated.specs.Table.{kept_in}
use Rattle.alike.specs.Strategies.{strategy_at}
use Rattle.alike.specs.Shown.{shown}
use Rattle.domains.specs.Told.{shown_ports}
use Rattle.generate.specs.Steps.{HasNets, ReportFronts, first_line, GlueFronts}

-- the table that is made
pub has_nets : (files area : Bytes) (nums : List ℕ) (s : State) (nets₀ nets : List ℕ) (n : ℕ) → Names (files ++ area) (supply_nets (model_of (files ++ area) (store_of nums s) s [])) 128 nets₀ nets n → HasNets files area nums s nets n
has_nets files area nums s nets₀ nets n h = record { are = h.are; few = h.count }

module _ (job : Bytes) (nums : List ℕ) (files area path : Bytes) (from : ℕ) (top : Bytes) (s : State) (nets : List ℕ) (n : ℕ) (has : HasNets files area nums s nets n) where
  module _ (count k : ℕ) (t : Setting) (st : Stands job nums count k files area path from top s t) where
    nets_are : table_names (files ++ area) nets n ≡ supply_nets t.records
    nets_are = has.are ∙ nets_stand job nums count k files area path from top s t st

    -- the package
    pub package_told : (o o' : Out) → o' ≡ emit o (package_of (nets_setting top (parts path from) (table_names (files ++ area) nets n))) → o' ≡ emit o (package_of t)
    package_told o o' e = e ∙ ap (λ (l : List Bytes). emit o (package_of (nets_setting top (parts path from) l))) nets_are ∙ ap (emit o) (package_stand job nums count k files area path from top s t st)

  -- ---- the report
  module _ (k name len : ℕ) (en : name ≡ get_or nums (128 + 8 * k) 0) (el : len ≡ get_or nums (128 + 8 * k + 1) 0) where
    row_name_lem : (module_row job nums k).name ≡ take len (drop name job)
    unfolding module_row
    row_name_lem = rw (en, el)

    pub report_front_told : (sw : Few Switch) (o o₁ o₂ : Out)
        → o₂ ≡ emit o₁ (each switch_line (map (switch_of (files ++ area) []) (take sw.n sw.all)))
        → sw ≡ s.switches
        → o₁ ≡ emit o (scope_text top (parts path from) (take len (drop name job)) n (table_names (files ++ area) nets n))
        → ReportFronts job nums k files area path from top s o o₂
    report_front_told sw o o₁ o₂ e₂ es e₁ count t st =
        let b : t.base.name ≡ take len (drop name job) = ap (λ (m : Module). m.name) st.base_is ∙ row_name_lem in
        let q : scope_text top (parts path from) (take len (drop name job)) n (table_names (files ++ area) nets n) ≡ scope_line t =
        sym (ap (λ (x : Bytes). scope_text x t.scope t.base.name n (table_names (files ++ area) nets n)) st.top_is
        ∙ ap (λ (x : List Bytes). scope_text top x t.base.name n (table_names (files ++ area) nets n)) st.scope_is_lem
        ∙ ap (λ (x : Bytes). scope_text top (parts path from) x n (table_names (files ++ area) nets n)) b)
        ∙ scope_is_lem t (files ++ area) nets n (nets_are count k t st) in
        let w : o₁ ≡ emit o (scope_line t) = e₁ ∙ ap (emit o) q in
        e₂
        ∙ ap (λ (x : Few Switch). emit o₁ (each switch_line (map (switch_of (files ++ area) []) (take x.n x.all)))) es
        ∙ ap (emit o₁) (lines_stand job nums count k files area path from top s t st)
        ∙ ap (λ (x : Out). emit x (each switch_line t.records.switches)) w

  -- ---- the glue
  pub glue_front_told : (ord : Orders files area nums s) (ports : List ℕ) (m : ℕ) (sw : Few Switch) (is : Few Isolation) (o o₁ o₂ o₃ o₄ : Out)
      → o₄ ≡ emit o₃ (texts.processes (map (shown (parts path from) top (strategy_at (files ++ area) is)) (kept_in job (files ++ area) ports m)))
      → o₃ ≡ emit o₂ (each (switch_glue (scope_setting (parts path from))) (map (switch_in (files ++ area) nums) (take sw.n sw.all)))
      → o₂ ≡ emit o₁ (net_blocks (nets_setting top (parts path from) (table_names (files ++ area) nets n)))
      → o₁ ≡ emit o first_line
      → is ≡ s.isolations
      → sw ≡ s.switches
      → GlueFronts job nums files area path from top s ports m o o₄
  glue_front_told ord ports m sw is o o₁ o₂ o₃ o₄ e₄ e₃ e₂ e₁ ei es count k t st =
      let w₂ : o₂ ≡ emit (emit o first_line) (net_blocks t) =
      e₂
      ∙ ap (λ (l : List Bytes). emit o₁ (net_blocks (nets_setting top (parts path from) l))) (nets_are count k t st)
      ∙ ap (emit o₁) (blocks_stand job nums count k files area path from top s t st)
      ∙ ap (λ (x : Out). emit x (net_blocks t)) e₁ in
      let w₃ : o₃ ≡ emit (emit (emit o first_line) (net_blocks t)) (each (switch_glue t) t.records.switches) =
      e₃
      ∙ ap (λ (x : Few Switch). emit o₂ (each (switch_glue (scope_setting (parts path from))) (map (switch_in (files ++ area) nums) (take x.n x.all)))) es
      ∙ ap (emit o₂) (glue_stands job nums count k files area path from top s t st ord)
      ∙ ap (λ (x : Out). emit x (each (switch_glue t) t.records.switches)) w₂ in
      e₄
      ∙ ap (λ (x : Few Isolation). emit o₃ (texts.processes (map (shown (parts path from) top (strategy_at (files ++ area) x)) (kept_in job (files ++ area) ports m)))) ei
      ∙ ap (λ (x : List Bytes). emit o₃ (texts.processes (map (shown x top (strategy_at (files ++ area) s.isolations)) (kept_in job (files ++ area) ports m)))) (sym st.scope_is_lem)
      ∙ ap (λ (x : Bytes). emit o₃ (texts.processes (map (shown t.scope x (strategy_at (files ++ area) s.isolations)) (kept_in job (files ++ area) ports m)))) (sym st.top_is)
      ∙ ap (λ (x : Out). emit x (texts.processes (shown_ports t job (files ++ area) s.isolations ports m))) w₃
