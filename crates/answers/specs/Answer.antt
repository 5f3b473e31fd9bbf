-- The answer to a job: the ten checks of document 01, "The first check that fails answers".
-- Assumes nothing.
use Rattle.std.specs.Prelude.{ℕ, ◌-◌, Bool, cond, ◌&&◌, [], ◌++◌, leb, length, replicate, Option, None, Some}
use Rattle.text.specs.Ascii.{Bytes}
use Rattle.joblines.specs.Job.{Module, Job}
use Rattle.joblines.specs.Parse.{Parsed, parse}
use Rattle.design.specs.Lookup.{module_named}
use Rattle.model.specs.Records.{Model}
use Rattle.read.specs.Reading.{Reading, reading}
use Rattle.texts.specs.Scope.{Scope, scope_of}
use Rattle.texts.specs.Setting.{Setting}
use Rattle.texts.specs.Texts.{glue_of, package_of, report_of, fits}
use Rattle.answers.specs.Limits.{least_bytes, least_numbers}

-- the lengths of what was lent for writing: the work areas for joined files, for all else and for numbers; the four buffers
pub record Lent : Type 0 where
  pub files : ℕ
  pub bytes : ℕ
  pub numbers : ℕ
  pub glue_room : ℕ
  pub package_room : ℕ
  pub report_room : ℕ
  pub log_room : ℕ

-- "either glue, package, report and log, or a numbered refusal": its number and its place
pub data Answer : Type 0 where
  texts : Bytes → Bytes → Bytes → Bytes → Answer
  refused : ℕ → ℕ → Answer

-- "Does each text fit its lent buffer? No: 14."
abbrev pub all_fit : Lent → Bytes → Bytes → Bytes → Bytes → Bool
all_fit l g p r o = leb (length g) l.glue_room && (leb (length p) l.package_room && (leb (length r) l.report_room && leb (length o) l.log_room))

abbrev pub fitted : Lent → Bytes → Bytes → Bytes → Bytes → Answer
fitted l g p r o = cond (all_fit l g p r o) (texts g p r o) (refused 14 0)

-- "Within the generation limits? No: 13."
abbrev pub generated : Lent → Setting → Answer
generated l s = cond (fits s) (fitted l (glue_of s) (package_of s) (report_of s) s.records.log) (refused 13 0)

-- checks 7 and 8: 13, 11, 12
abbrev pub in_scope : Lent → Job → Model → Scope → Answer
in_scope l j m (Scope.at path base) = generated l (record { top = j.top; scope = path; base = base; design = j.modules; records = m })
in_scope l j m (Scope.no_scope n) = refused n 0

-- an accepted job lists its top
abbrev pub below_top : Lent → Job → Model → Option Module → Answer
below_top l j m None = refused 7 0
below_top l j m (Some top) = in_scope l j m (scope_of j top m.design_top)

-- check 6: 8, 9, 10, with the command's number
abbrev pub after_reading : Lent → Job → Reading → Answer
after_reading l j (Reading.done n m) = below_top l j m (module_named j.modules j.top)
after_reading l j (Reading.refused x k) = refused x k

-- checks 2 to 5: with the job's line
abbrev pub after_parse : Lent → Parsed → Answer
after_parse l (Parsed.accepted j) = after_reading l j (reading j)
after_parse l (Parsed.refused x n) = refused x n

abbrev pub roomy : Lent → Bool
roomy l = leb least_bytes l.files && (leb least_bytes l.bytes && leb least_numbers l.numbers)

unfoldable pub answer : Lent → Bytes → Answer
answer l job = cond (roomy l) (after_parse l (parse job)) (refused 1 0)

-- ---- "The answer is a number, a place and four lengths; 0 means accepted." "Lengths of a refusal are 0."

abbrev pub number : Answer → ℕ
number (Answer.texts g p r o) = 0
number (Answer.refused x k) = x

abbrev pub place : Answer → ℕ
place (Answer.texts g p r o) = 0
place (Answer.refused x k) = k

abbrev pub glue_text_lem : Answer → Bytes
glue_text_lem (Answer.texts g p r o) = g
glue_text_lem (Answer.refused x k) = []

abbrev pub package_text : Answer → Bytes
package_text (Answer.texts g p r o) = p
package_text (Answer.refused x k) = []

abbrev pub report_text : Answer → Bytes
report_text (Answer.texts g p r o) = r
report_text (Answer.refused x k) = []

abbrev pub log_text : Answer → Bytes
log_text (Answer.texts g p r o) = o
log_text (Answer.refused x k) = []

-- ---- "Outputs past their length, and the work areas, are zero after every call."

-- a buffer of n bytes that holds a text
abbrev pub held : ℕ → Bytes → Bytes
held n t = t ++ replicate (n - length t) 0
