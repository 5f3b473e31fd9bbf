-- Laws: the texts of stored switches are those of every setting that the values stand for. Assumes nothing.
use Rattle.std.specs.Prelude.{ℕ, ◌≡◌, refl, List, [], ◌++◌, map, take}
use Rattle.std.proofs.Common.{sym, ap, subst, ◌∙◌}
use Rattle.text.specs.Ascii.{Bytes}
use Rattle.out.specs.Items.{each}
use Rattle.scope.specs.Parts.{parts}
use Rattle.texts.specs.Setting.{Setting}
use Rattle.texts.specs.Switches.{switch_glue, switch_line, switch_warnings}
use Rattle.store.specs.View.{Store, switch_of, model_of}
use Rattle.store.specs.Order.{Within, switch_words}
use Rattle.store.specs.Rows.{words_in, store_of}
use Rattle.store.specs.declared.state.State.{State}
use Rattle.setting.specs.Stands.{Stands}
use Rattle.setting.specs.Orders.{Orders}
use Rattle.conditions.specs.Controls.{scope_setting}
use Rattle.switches.specs.Words.{switch_in, switches_in}
use Rattle.switches.specs.Texts.{remarks, glues_same, remarks_same, lines_same}

model_switches : (mem : Bytes) (st : Store) (s : State) (log : Bytes) → (model_of mem st s log).switches ≡ map (switch_of mem st.words) (take s.switches.n s.switches.all)
unfolding model_of
model_switches mem st s log = refl

module _ (job : Bytes) (nums : List ℕ) (count k : ℕ) (files area over : Bytes) (from : ℕ) (top : Bytes) (s : State) (t : Setting) (st : Stands job nums count k files area over from top s t) where
  switches_stored : t.records.switches ≡ map (switch_of (files ++ area) (words_in nums s.fill.words)) (take s.switches.n s.switches.all)
  switches_stored = ap (λ m. m.switches) st.records_are ∙ model_switches (files ++ area) (store_of nums s) s t.records.log

  pub lines_stand : each switch_line (map (switch_of (files ++ area) []) (take s.switches.n s.switches.all)) ≡ each switch_line t.records.switches
  lines_stand = lines_same (files ++ area) (words_in nums s.fill.words) (take s.switches.n s.switches.all) ∙ ap (each switch_line) (sym switches_stored)

  module _ (o : Orders files area nums s) where
    switches_are : t.records.switches ≡ map (switch_in (files ++ area) nums) (take s.switches.n s.switches.all)
    switches_are =
        switches_stored
        ∙ switches_in (files ++ area) nums s.fill.words (take s.switches.n s.switches.all) (subst (λ (n : ℕ). Within switch_words n (take s.switches.n s.switches.all)) (sym o.shaped.words) o.shaped.switch_words)

    pub glue_stands : each (switch_glue (scope_setting (parts over from))) (map (switch_in (files ++ area) nums) (take s.switches.n s.switches.all)) ≡ each (switch_glue t) t.records.switches
    glue_stands =
        ap (λ (p : List Bytes). each (switch_glue (scope_setting p)) (map (switch_in (files ++ area) nums) (take s.switches.n s.switches.all))) (sym st.scope_is_lem)
        ∙ glues_same t (map (switch_in (files ++ area) nums) (take s.switches.n s.switches.all))
        ∙ ap (each (switch_glue t)) (sym switches_are)

    pub remarks_stand : remarks (scope_setting (parts over from)) (map (switch_in (files ++ area) nums) (take s.switches.n s.switches.all)) ≡ switch_warnings t
    remarks_stand =
        ap (λ (p : List Bytes). remarks (scope_setting p) (map (switch_in (files ++ area) nums) (take s.switches.n s.switches.all))) (sym st.scope_is_lem)
        ∙ remarks_same t (map (switch_in (files ++ area) nums) (take s.switches.n s.switches.all))
        ∙ ap (remarks t) (sym switches_are)
