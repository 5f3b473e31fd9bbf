-- Checks 7 to 9: what a job comes to before the room of its texts is asked for; and how the code's answer stands for it.
-- Assumes nothing.
use Rattle.std.specs.Prelude.{ℕ, ◌≡◌, cond}
use Rattle.text.specs.Ascii.{Bytes}
use Rattle.out.specs.Emit.{◌▸◌, emit}
use Rattle.joblines.specs.Job.{Job}
use Rattle.model.specs.Records.{Model}
use Rattle.texts.specs.Scope.{Scope}
use Rattle.texts.specs.Setting.{Setting, setting_of}
use Rattle.texts.specs.Texts.{glue_of, package_of, report_of, fits}
use Rattle.answers.specs.Answers.{stopped_by}
use Rattle.answers.specs.declared.Texts.{Texts}

-- a setting whose texts are within the limits; or a refusal
pub data Stage : Type 0 where
  set : Setting → Stage
  stop : ℕ → Stage

-- "Within the generation limits? No: 13."
abbrev pub limited : Setting → Stage
limited t = cond (fits t) (set t) (stop 13)

-- in a scope, or refused by 13, 11, 12
abbrev pub stage_in : Job → Model → Scope → Stage
stage_in j m (Scope.at path base) = limited (setting_of j path base m)
stage_in j m (Scope.no_scope n) = stop n

-- ---- the three texts are written from the start of their buffers, as far as there is room
pub record Written (glue₀ glue pkg₀ pkg report₀ report : Bytes) (r : Texts) (t : Setting) : Type 0 where
  pub number_is : r.number ≡ 0
  pub glue_is : glue ▸ r.glue ≡ emit (glue₀ ▸ 0) (glue_of t)
  pub pkg_is : pkg ▸ r.pkg ≡ emit (pkg₀ ▸ 0) (package_of t)
  pub report_is : report ▸ r.report ≡ emit (report₀ ▸ 0) (report_of t)

abbrev pub Staged : Bytes → Bytes → Bytes → Bytes → Bytes → Bytes → Texts → Stage → Type 0
Staged glue₀ glue pkg₀ pkg report₀ report r (set t) = Written glue₀ glue pkg₀ pkg report₀ report r t
Staged glue₀ glue pkg₀ pkg report₀ report r (stop n) = (r ≡ stopped_by n) × (n ≡ 0 → ⊥)
