-- The chain and its limits: laws as the needs of `bodies_by` and `generate_by` ask them. Assumes nothing.
use Prim.Native.Nat.{ℕ, ◌≤◌, ◌<◌}
use mathlib.Core.Path.{◌≡◌, refl, ap, subst, ◌∙◌}
use mathlib.Core.Bool.{true, false}
use mathlib.Core.List.{List, ◌++◌}
use Rattle.std.specs.Prelude.{Ok}
use lib.ListN.{length}
use Rattle.text.specs.Ascii.{Bytes}
use Rattle.text.specs.Scan.{all}
use Rattle.out.specs.Emit.{Out, ◌▸◌, emit}
use Rattle.out.specs.Items.{each}
use Rattle.store.specs.declared.state.State.{State}
use Rattle.setting.specs.Stands.{Stands}
use Rattle.texts.specs.Setting.{Setting}
use Rattle.texts.specs.Domains.{domain_fits}
use Rattle.texts.specs.Isolation as texts
use Rattle.texts.specs.Supplies.{net_blocks}
use Rattle.texts.specs.Switches.{switch_glue}
use Rattle.texts.specs.Texts.{fits, scope_line, shifter_line, table_line}
use Rattle.keep.specs.declared.Cover.{Cover}
use Rattle.isolation.specs.Asked.{Isolated}
use Rattle.domains.specs.Told.{DomainsPut, AllTold}
use Rattle.domains.specs.declared.Told.{Told}
use Rattle.generate.specs.declared.tail.Warned.{Warned}
use Rattle.answers.specs.Answers.{stopped_by}
use Rattle.answers.specs.declared.Texts.{Texts}
use Rattle.generate.specs.Pieces.{glue_pieces, report_pieces, too_many_ports, domain_over, too_many_warnings, all_within, staged_over, staged_fits}
use Rattle.generate.specs.Steps.{first_line, GlueFronts, AllIsolated, Warns, AllTailed, Bodied}

module _ (job : Bytes) (nums : List ℕ) (count k : ℕ) (files area path : Bytes) (from : ℕ) (top : Bytes) (s : State) (glue₀ : Bytes) (end : ℕ) (o : Out) (out₁ : Bytes) (ports : List ℕ) (c : Cover) (iso : AllIsolated job nums count k files area s false o out₁ ports c) where
  -- more ports than are allowed
  pub bodied_ports : (glue report : Bytes) (r : Texts) → c.over ≡ true → r ≡ stopped_by 13 → Bodied job nums count k files area path from top s glue₀ glue end o report r
  bodied_ports glue report r h e t st pkg₀ pkg report₀ ep er = staged_over glue₀ glue pkg₀ pkg report₀ report r t (too_many_ports t ((iso path from top t st).over h)) e

  -- a walk past its limits
  pub bodied_walks : ((t : Setting) → Stands job nums count k files area path from top s t → all (domain_fits t) t.records.domains ≡ false) → (glue report : Bytes) (r : Texts) → r ≡ stopped_by 13 → Bodied job nums count k files area path from top s glue₀ glue end o report r
  bodied_walks over glue report r e t st pkg₀ pkg report₀ ep er = staged_over glue₀ glue pkg₀ pkg report₀ report r t (domain_over t (over t st)) e

  module _ (go : c.over ≡ false) (g₁ : Out) (glue : Bytes) (report₁ : Bytes) where
    module _ (u : Told) (told : AllTold job nums count k files area path from top s ports c.ports g₁ glue (out₁ ▸ c.at) report₁ (Ok u)) (report : Bytes) (x : Warned) (tl : AllTailed c.warnings job nums count k files area path from top s (report₁ ▸ u.report) report x) where
      -- too many warnings
      pub bodied_warnings : (r : Texts) → 512 < x.count → r ≡ stopped_by 13 → Bodied job nums count k files area path from top s glue₀ glue end o report r
      bodied_warnings r h e t st pkg₀ pkg report₀ ep er =
          let few : length (texts.isolation t).ports ≤ 256 = (iso path from top t st).few go in
          staged_over glue₀ glue pkg₀ pkg report₀ report r t (too_many_warnings t (told t st).fits few ((tl t st few ((iso path from top t st).count go)).many h)) e

      -- within all limits
      pub bodied_texts : (r : Texts) → GlueFronts job nums files area path from top s ports c.ports (glue₀ ▸ 0) g₁ → x.count ≤ 512 → r ≡ record { number = 0; glue = u.glue; pkg = end; report = x.at } → Bodied job nums count k files area path from top s glue₀ glue end o report r
      bodied_texts r gf h e t st pkg₀ pkg report₀ ep er =
          let i : Isolated t job (files ++ area) s.isolations false o out₁ ports c = iso path from top t st in
          let few : length (texts.isolation t).ports ≤ 256 = i.few go in
          let d : DomainsPut t (texts.isolation t).ports g₁ glue (out₁ ▸ c.at) report₁ u = subst (λ (ps : List texts.Isolated). DomainsPut t ps g₁ glue (out₁ ▸ c.at) report₁ u) (i.ports_are go) (told t st) in
          let g₁_is : g₁ ≡ emit (emit (emit (emit (glue₀ ▸ 0) first_line) (net_blocks t)) (each (switch_glue t) t.records.switches)) (texts.processes (texts.isolation t).ports) =
          gf count k t st ∙ ap (λ (ps : List texts.Isolated). emit (emit (emit (emit (glue₀ ▸ 0) first_line) (net_blocks t)) (each (switch_glue t) t.records.switches)) (texts.processes ps)) (i.ports_are go) in
          let w : Warns t (emit (emit (report₁ ▸ u.report) (each shifter_line t.records.shifters)) (each table_line t.records.tables)) report x = tl t st few (i.count go) in
          rw e
          (staged_fits glue₀ glue pkg₀ pkg report₀ report (record { number = 0; glue = u.glue; pkg = end; report = x.at }) t (all_within t (told t st).fits few (w.few h))
          record {
            number_is = refl;
            glue_is = glue_pieces t (glue₀ ▸ 0) (emit (glue₀ ▸ 0) first_line) (emit (emit (glue₀ ▸ 0) first_line) (net_blocks t)) (emit (emit (emit (glue₀ ▸ 0) first_line) (net_blocks t)) (each (switch_glue t) t.records.switches)) g₁ (glue ▸ u.glue) refl refl refl g₁_is d.glue_is;
            pkg_is = ep;
            report_is = report_pieces t (report₀ ▸ 0) (emit (report₀ ▸ 0) (scope_line t)) o (out₁ ▸ c.at) (report₁ ▸ u.report) (emit (report₁ ▸ u.report) (each shifter_line t.records.shifters)) (emit (emit (report₁ ▸ u.report) (each shifter_line t.records.shifters)) (each table_line t.records.tables)) (report ▸ x.at) refl er (i.text go) d.report_is refl refl w.text;
          })
