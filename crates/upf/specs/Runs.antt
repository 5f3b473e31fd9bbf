-- What a run promises: the answer of the definition, each text at the front of its buffer and zeros behind it, and zeros in the work areas.
-- Assumes nothing.
use Rattle.std.specs.Prelude.{ℕ, ◌≡◌, List, ◌++◌, length, replicate}
use Rattle.text.specs.Ascii.{Bytes}
use Rattle.joblines.specs.Parse.{parse}
use Rattle.jobindex.specs.Index.{module_row, job_of}
use Rattle.jobindex.specs.declared.Header.{Header}
use Rattle.store.specs.Rows.{store_of}
use Rattle.store.specs.Strings.{maybe_of}
use Rattle.store.specs.View.{model_of}
use Rattle.store.specs.declared.state.State.{State}
use Rattle.texts.specs.Scope.{scope_of}
use Rattle.answers.specs.Answer.{Lent, answer, after_parse, number, place, glue_text_lem, package_text, report_text, log_text, held}
use Rattle.answers.specs.Stage.{stage_in, Staged}
use Rattle.answers.specs.Told.{Told}
use Rattle.answers.specs.declared.Answer.{Answer}
use Rattle.answers.specs.declared.Texts.{Texts}

-- the lengths of what was lent
abbrev pub lent_of : ℕ → ℕ → ℕ → Bytes → Bytes → Bytes → Bytes → Lent
lent_of files area nums glue pkg report log =
    record {
      files = files;
      bytes = area;
      numbers = nums;
      glue_room = length glue;
      package_room = length pkg;
      report_room = length report;
      log_room = length log;
    }

-- THE RUN: one answer for every byte string, and every lent byte
pub record Ran (job files₀ files area₀ area : Bytes) (nums₀ nums : List ℕ) (glue₀ glue pkg₀ pkg report₀ report log₀ log : Bytes) (r : Answer) : Type 0 where
  pub number_is : r.number ≡ number (answer (lent_of (length files₀) (length area₀) (length nums₀) glue₀ pkg₀ report₀ log₀) job)
  pub place_is_lem : r.place ≡ place (answer (lent_of (length files₀) (length area₀) (length nums₀) glue₀ pkg₀ report₀ log₀) job)
  pub glue_long : r.glue ≡ length (glue_text_lem (answer (lent_of (length files₀) (length area₀) (length nums₀) glue₀ pkg₀ report₀ log₀) job))
  pub pkg_long : r.pkg ≡ length (package_text (answer (lent_of (length files₀) (length area₀) (length nums₀) glue₀ pkg₀ report₀ log₀) job))
  pub report_long : r.report ≡ length (report_text (answer (lent_of (length files₀) (length area₀) (length nums₀) glue₀ pkg₀ report₀ log₀) job))
  pub log_long : r.log ≡ length (log_text (answer (lent_of (length files₀) (length area₀) (length nums₀) glue₀ pkg₀ report₀ log₀) job))
  pub glue_is : glue ≡ held (length glue₀) (glue_text_lem (answer (lent_of (length files₀) (length area₀) (length nums₀) glue₀ pkg₀ report₀ log₀) job))
  pub pkg_is : pkg ≡ held (length pkg₀) (package_text (answer (lent_of (length files₀) (length area₀) (length nums₀) glue₀ pkg₀ report₀ log₀) job))
  pub report_is : report ≡ held (length report₀) (report_text (answer (lent_of (length files₀) (length area₀) (length nums₀) glue₀ pkg₀ report₀ log₀) job))
  pub log_is : log ≡ held (length log₀) (log_text (answer (lent_of (length files₀) (length area₀) (length nums₀) glue₀ pkg₀ report₀ log₀) job))
  pub files_cleared : files ≡ replicate (length files₀) 0
  pub area_cleared : area ≡ replicate (length area₀) 0
  pub nums_cleared : nums ≡ replicate (length nums₀) 0

-- ---- the steps to it

-- checks 1 to 10, before the buffers are cleared
abbrev pub Answered : Bytes → ℕ → ℕ → ℕ → Bytes → Bytes → Bytes → Bytes → Bytes → Bytes → Bytes → Bytes → Answer → Type 0
Answered job files area nums glue₀ glue pkg₀ pkg report₀ report log₀ log r =
    Told (answer (lent_of files area nums glue₀ pkg₀ report₀ log₀) job) glue pkg report log r

-- checks 2 to 10, whatever the lengths of the work areas are
abbrev pub Checked : Bytes → Bytes → Bytes → Bytes → Bytes → Bytes → Bytes → Bytes → Bytes → Answer → Type 0
Checked job glue₀ glue pkg₀ pkg report₀ report log₀ log r =
    (files area nums : ℕ) → Told (after_parse (lent_of files area nums glue₀ pkg₀ report₀ log₀) (parse job)) glue pkg report log r

-- checks 7 to 9: the log is not looked at
abbrev pub StagedAt : Bytes → List ℕ → Bytes → Bytes → Header → State → Bytes → Bytes → Bytes → Bytes → Bytes → Bytes → Texts → Type 0
StagedAt job nums files area head s glue₀ glue pkg₀ pkg report₀ report r =
    (log : Bytes) → Staged glue₀ glue pkg₀ pkg report₀ report r
    (stage_in (job_of job nums head) (model_of (files ++ area) (store_of nums s) s log) (scope_of (job_of job nums head) (module_row job nums head.topmodule) (maybe_of (files ++ area) s.head.top)))
