-- Laws: the state that reading leaves is in order for generation, and with the index it stands for the setting of the job. Assumes nothing.
use Rattle.std.specs.Prelude.{ℕ, ◌+◌, refl, List, [], ◌++◌, length}
use Rattle.std.proofs.Common.{arith, ap, subst, length-append}
use Rattle.std.proofs.Math.Path.{sym}
use Rattle.text.specs.Ascii.{Bytes}
use Rattle.joblines.specs.Job.{Job}
use Rattle.jobindex.specs.Index.{module_row, Indexed}
use Rattle.jobindex.specs.declared.Header.{Header}
use Rattle.lookup.specs.Rows.{modules}
use Rattle.scope.specs.Parts.{parts}
use Rattle.texts.specs.Setting.{setting_of}
use Rattle.store.specs.View.{model_of}
use Rattle.store.specs.Rows.{store_of}
use Rattle.store.specs.declared.state.State.{State}
use Rattle.made.specs.Made.{reach_of}
use Rattle.held.specs.Held.{model_at, Held}
use Rattle.held.specs.Grows.{bounded_more}
use Rattle.held.specs.Laws.{end_low, whole_model}
use Rattle.readfacts.specs.Few.{Few}
use Rattle.setting.specs.Stands.{Stands}
use Rattle.setting.specs.Orders.{Orders}

module _ (files area nums : List ℕ) (s : State) (v : Held files area nums 0 s) where
  pub held_orders : Few 1024 (model_at files area nums s []) → Orders files area nums s
  held_orders f =
      record {
        small = omega (arith, v.lends.small, length-append files area);
        rows = omega (arith, v.rows, v.commands);
        words = omega (arith, v.words, v.shaped.switches.count, v.shaped.portstates.count);
        shaped = v.shaped;
        bounded = bounded_more (reach_of (length files)) (length files + s.fill.end) (length (files ++ area)) (store_of nums s) s (omega (arith, end_low files area nums s v, length-append files area)) v.bounded;
        few = subst (Few 1024) (sym (whole_model files area nums s v [])) f;
      }

  module _ (job : Bytes) (head : Header) (j : Job) (ix : Indexed job nums head j) (k : ℕ) (over : Bytes) (from : ℕ) (log : Bytes) where
    -- the setting of the job: its scope's names are the parts of `over`, its module is row k
    pub held_stands : Stands job nums head.modules k files area over from j.top s (setting_of j (parts over from) (module_row job nums k) (model_at files area nums s log))
    unfolding model_of
    held_stands = record { top_is = refl; scope_is_lem = refl; base_is = refl; design_is = sym (ap (λ (x : Job). x.modules) ix.stands); records_are = sym (whole_model files area nums s v log) }
