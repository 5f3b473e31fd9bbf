-- Checks 2 to 6 of document 01: what a job comes to before its scope is looked for; and how the answer of the code stands for it.
-- Assumes nothing.
use Rattle.std.specs.Prelude.{ℕ, ◌≡◌, cond, List, [], ◌++◌, eqb, length, Result, Ok, Err}
use Rattle.text.specs.Ascii.{Bytes}
use Rattle.out.specs.Emit.{◌▸◌, emit}
use Rattle.joblines.specs.Job.{Job}
use Rattle.joblines.specs.Parse.{Parsed, parse}
use Rattle.jobindex.specs.Index.{job_of}
use Rattle.jobindex.specs.declared.Header.{Header}
use Rattle.model.specs.Records.{Model}
use Rattle.read.specs.Reading.{Reading, reading}
use Rattle.store.specs.Rows.{store_of}
use Rattle.store.specs.View.{model_of}
use Rattle.scopes.specs.declared.go.Out.{Out}
use Rattle.scopes.specs.Stops.{tag_of}
use Rattle.findscope.specs.Scopes.{Taken, Whole}
use Rattle.setting.specs.Orders.{Orders}
use Rattle.intent.specs.declared.Records.{Records}
use Rattle.intent.specs.declared.Stopped.{Stopped}

-- the job and the records that its commands left; or a refusal, its number and its place
pub data Intent : Type 0 where
  reads : Job → Model → Intent
  stops : ℕ → ℕ → Intent

-- check 6: 8, 9, 10, with the command's number
abbrev pub after_reading : Job → Reading → Intent
after_reading j (Reading.done n m) = reads j m
after_reading j (Reading.refused x k) = stops x k

-- checks 2 to 5: with the job's line
abbrev pub after_parse : Parsed → Intent
after_parse (Parsed.accepted j) = after_reading j (reading j)
after_parse (Parsed.refused x n) = stops x n

unfoldable pub intent_of : Bytes → Intent
intent_of job = after_parse (parse job)

-- its log; none of a refusal
abbrev pub log_of : Intent → Bytes
log_of (reads j m) = m.log
log_of (stops x k) = []

-- ---- what an answer stands for: the job by the index, the records by the state, rows and words; the log is a text of its own
abbrev pub records_is : Bytes → Bytes → Bytes → List ℕ → Bytes → Result Records Stopped → Intent
records_is job files area nums log (Ok r) = reads (job_of job nums r.head) (model_of (files ++ area) (store_of nums r.state) r.state log)
records_is job files area nums log (Err e) = stops e.number e.place

-- of a job that was taken, the order of all that is handed on
pub record Handed (job files area : Bytes) (nums : List ℕ) (log₀ log : Bytes) (r : Records) : Type 0 where
  pub taken : Taken job nums r.head
  pub orders : Orders files area nums r.state
  pub top : Whole (length files) r.state.head.top
  pub logged : log ▸ r.state.fill.log ≡ emit (log₀ ▸ 0) (log_of (intent_of job))

abbrev pub HandedOn : Bytes → Bytes → Bytes → List ℕ → Bytes → Bytes → Result Records Stopped → Type 0
HandedOn job files area nums log₀ log (Ok r) = Handed job files area nums log₀ log r
HandedOn job files area nums log₀ log (Err _) = Unit {0}

-- the answer stands for the job's intent, whose log was written to its buffer, which was log₀
pub record RecordsRead (job files area : Bytes) (nums : List ℕ) (log₀ log : Bytes) (r : Result Records Stopped) : Type 0 where
  pub says : records_is job files area nums (log_of (intent_of job)) r ≡ intent_of job
  pub hands : HandedOn job files area nums log₀ log r

-- ---- the answer that is made
abbrev pub records_after : Header → Out → Result Records Stopped
records_after head o = cond (eqb (tag_of o.stop) 0) (Ok (record { head = head; state = o.state })) (Err (record { number = tag_of o.stop; place = o.state.count.commands }))
