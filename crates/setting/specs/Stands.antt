-- How the values that generation works on stand for a setting. Assumes nothing.
use Rattle.std.specs.Prelude.{ℕ, ◌≡◌, refl, List, ◌++◌}
use Rattle.text.specs.Ascii.{Bytes}
use Rattle.jobindex.specs.Index.{module_row}
use Rattle.lookup.specs.Rows.{modules}
use Rattle.scope.specs.Parts.{parts}
use Rattle.texts.specs.Setting.{Setting}
use Rattle.store.specs.View.{model_of}
use Rattle.store.specs.Rows.{store_of}
use Rattle.store.specs.declared.state.State.{State}

-- `nums` has the index of the job with `count` modules, and the rows and words of the state s; row k is the scope's module; the parts of `over` from
-- `from` on are the scope's names; `top` is the top's name
pub record Stands (job : Bytes) (nums : List ℕ) (count k : ℕ) (files area over : Bytes) (from : ℕ) (top : Bytes) (s : State) (t : Setting) : Type 0 where
  pub top_is : t.top ≡ top
  pub scope_is_lem : t.scope ≡ parts over from
  pub base_is : t.base ≡ module_row job nums k
  pub design_is : t.design ≡ modules job nums count
  pub records_are : t.records ≡ model_of (files ++ area) (store_of nums s) s t.records.log

-- the setting that they stand for; the log is what has been written to its buffer
abbrev pub setting_at : Bytes → List ℕ → ℕ → ℕ → Bytes → Bytes → Bytes → ℕ → Bytes → State → Bytes → Setting
setting_at job nums count k files area over from top s log =
    record {
      top = top;
      scope = parts over from;
      base = module_row job nums k;
      design = modules job nums count;
      records = model_of (files ++ area) (store_of nums s) s log;
    }

pub stands_at : (job : Bytes) (nums : List ℕ) (count k : ℕ) (files area over : Bytes) (from : ℕ) (top : Bytes) (s : State) (log : Bytes) → Stands job nums count k files area over from top s (setting_at job nums count k files area over from top s log)
unfolding model_of
stands_at job nums count k files area over from top s log = record { top_is = refl; scope_is_lem = refl; base_is = refl; design_is = refl; records_are = refl }
