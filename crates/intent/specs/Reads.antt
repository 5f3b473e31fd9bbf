-- Laws: the index as the reading leaves it, the records in the whole area, and what generation may ask of them.
-- Assumes nothing.
use Rattle.std.specs.Prelude.{Option, Some, None, Result, Ok, Err}
use Rattle.store.specs.declared.stored.Stored.{Stored}
use Rattle.std.specs.Prelude.{ℕ, ◌+◌, ◌*◌, ◌≤◌, ◌<◌, ◌≡◌, refl, Bool, true, false, List, [], ◌++◌, eqb, length, take, get_or}
use Rattle.std.proofs.Common.{arith, sym, ◌∙◌, length-append, get_or-take, eqb-true}
use Rattle.std.proofs.Math.Path.{ap}
use Rattle.text.specs.Ascii.{Bytes}
use Rattle.spans.specs.Reach.{held_by}
use Rattle.joblines.specs.Job.{Job}
use Rattle.joblines.specs.Parse.{accepted, refused, parse}
use Rattle.jobindex.specs.Index.{num, path_at, name_at, row_at, job_of, Indexed}
use Rattle.jobindex.specs.Rows.{files_same, modules_same}
use Rattle.jobindex.specs.declared.Header.{Header}
use Rattle.read.specs.Reading.{reading}
use Rattle.read.specs.Reading.Reading.{done}
use Rattle.store.specs.Order.{of_maybe}
use Rattle.store.specs.Rows.{store_of}
use Rattle.store.specs.Strings.{span_of}
use Rattle.store.specs.View.{model_of}
use Rattle.store.specs.declared.state.State.{State}
use Rattle.made.specs.Made.{reach_of}
use Rattle.readfacts.specs.Few.{Few}
use Rattle.readfacts.specs.Kept.{reading_few, few_more}
use Rattle.held.specs.Held.{model_at, counted_of, reading_of, log_of as log_read, Held}
use Rattle.held.specs.Grows.{bounded_more}
use Rattle.held.specs.Laws.{end_low, whole_model}
use Rattle.job.specs.Reader.{JobRead}
use Rattle.joblines.specs.Forms.{number_of}
use Rattle.job.specs.declared.Refused.{Refused}
use Rattle.reader.proofs.AcceptedStarts.{accepted_starts}
use Rattle.reader.specs.Whole.{reading_at, Starts, WasRead}
use Rattle.scopes.specs.declared.go.Out.{Out}
use Rattle.scopes.specs.Stops.{tag_of}
use Rattle.findscope.specs.Scopes.{Whole}
use Rattle.setting.specs.Orders.{Orders}
use Rattle.intent.specs.Intent.{reads, stops, after_reading, intent_of, log_of, RecordsRead, records_after}
use Rattle.intent.specs.declared.Records.{Records}
use Rattle.intent.specs.declared.Stopped.{Stopped}

-- ---- the index: numbers below 1,152 that are kept stand for the same job
module _ (job : Bytes) (nums nums' : List ℕ) (low : take 1152 nums' ≡ take 1152 nums) where
  num_same : (i : ℕ) → i < 1152 → num nums' i ≡ num nums i
  num_same i h = sym (get_or-take 1152 nums' i 0 h) ∙ (ap (λ (l : List ℕ). get_or l i 0) low ∙ get_or-take 1152 nums i 0 h)

  path_same : (k : ℕ) → k < 32 → path_at job nums' k ≡ path_at job nums k
  unfolding path_at
  path_same k h = rw (num_same (4 * k) (omega arith), num_same (4 * k + 1) (omega arith))

  name_same : (k : ℕ) → k < 128 → name_at job nums' k ≡ name_at job nums k
  unfolding name_at
  name_same k h = rw (num_same (row_at k) (omega arith), num_same (row_at k + 1) (omega arith))

  module _ (head : Header) (files : head.files ≤ 32) (mods : head.modules ≤ 128) where
    pub job_same : job_of job nums' head ≡ job_of job nums head
    job_same =
        rw (
          files_same job nums nums' head.files (λ i h. num_same i (omega arith)),
          modules_same job nums nums' head.modules (λ i h g. num_same i (omega arith)),
        )

    pub indexed_same : Indexed job nums head (job_of job nums head) → Indexed job nums' head (job_of job nums' head)
    indexed_same v =
        record {
          stands = refl;
          start_row = v.start_row;
          start_is = path_same head.startfile (omega (arith, v.start_row)) ∙ v.start_is;
          top_row = v.top_row;
          top_is = name_same head.topmodule (omega (arith, v.top_row)) ∙ v.top_is;
        }

-- the reading from the index is the job's
pub reading_is : (job : Bytes) (nums : List ℕ) (head : Header) → Indexed job nums head (job_of job nums head) → reading_at job nums head.files head.startfile ≡ reading (job_of job nums head)
reading_is job nums head v = rw v.start_is

-- ---- the records in the whole area
module _ (files area nums : List ℕ) (s : State) (v : Held files area nums 0 s) where
  few_log : (log log' : Bytes) (e : ℕ) → Few e (model_of (files ++ area) (store_of nums s) s log) → Few e (model_of (files ++ area) (store_of nums s) s log')
  unfolding model_of
  few_log log log' e f = record { domains = f.domains; switches = f.switches; isolations = f.isolations; tables = f.tables; states = f.states; retained = f.retained }

  pub held_orders : (j : Job) (log : Bytes) → reading j ≡ done (counted_of s) (model_at files area nums s log) → Orders files area nums s
  held_orders j log e =
      let f : Few s.count.entries (model_at files area nums s log) = reading_few j (counted_of s) (model_at files area nums s log) e in
      let g : Few 1024 (model_of (files ++ area) (store_of nums s) s log) = rw (whole_model files area nums s v log) (few_more s.count.entries 1024 (model_at files area nums s log) v.entries f) in
      record {
        small = omega (arith, v.lends.small, length-append files area);
        rows = omega (arith, v.rows, v.commands);
        words = omega (arith, v.words, v.shaped.switches.count, v.shaped.portstates.count);
        shaped = v.shaped;
        bounded = bounded_more (reach_of (length files)) (length files + s.fill.end) (length (files ++ area)) (store_of nums s) s (omega (arith, length-append files area, end_low files area nums s v)) v.bounded;
        few = few_log log [] 1024 g;
      }

  pub held_top : Whole (length files) s.head.top
  held_top = go s.head.top v.bounded.top
    where
      go : (t : Option Stored) → of_maybe (reach_of (length files)) t ≤ length files + s.fill.end → Whole (length files) t
      go None h = tt
      go (Some x) h = held_by (length files) (length files + s.fill.end) (span_of x) (omega (arith, end_low files area nums s v, v.lends.small)) h

-- ---- a job that was refused
pub stopped_read : (job files area : Bytes) (nums : List ℕ) (log₀ log : Bytes) (x n : ℕ) → refused x n ≡ parse job → RecordsRead job files area nums log₀ log (Err (record { number = x; place = n }))
unfolding intent_of
stopped_read job files area nums log₀ log x n p = record { says = rw (← p); hands = tt }

-- ---- a job that was taken: nums is its index, nums' what reading leaves
module _ (job : Bytes) (nums nums' : List ℕ) (head : Header) (p : accepted (job_of job nums head) ≡ parse job) (v : Indexed job nums head (job_of job nums head)) (few : (head.files ≤ 32) × (head.modules ≤ 128)) (files₀ files area₀ area log₀ log : Bytes) (o : Out) (w : WasRead job files₀ files area₀ area nums nums' log₀ log head.files head.startfile o) where
  abbrev j : Job
  j = job_of job nums head

  abbrev s : State
  s = o.state

  abbrev text : Bytes
  text = log_read (reading j)

  come : reading_of files area nums' text o ≡ reading j
  come = rw (reading_is job nums head v) at w.comes.result

  intent_is : intent_of job ≡ after_reading j (reading j)
  unfolding intent_of
  intent_is = rw (← p)

  module _ (z : tag_of o.stop ≡ 0) where
    done_is : reading j ≡ done (counted_of s) (model_at files area nums' s text)
    done_is = sym come ∙ rw z

    reads_is : intent_of job ≡ reads j (model_of (files ++ area) (store_of nums' s) s text)
    reads_is = intent_is ∙ (ap (after_reading j) done_is ∙ ap (reads j) (sym (whole_model files area nums' s (w.held z) text)))

    log_is : log_of (intent_of job) ≡ text
    unfolding model_of
    log_is = ap log_of reads_is

  read_when : (b : Bool) → eqb (tag_of o.stop) 0 ≡ b → RecordsRead job files area nums' log₀ log (records_after head o)
  read_when true e =
      let z : tag_of o.stop ≡ 0 = eqb-true (tag_of o.stop) 0 e in
      rw e record {
        says = rw (log_is z, job_same job nums nums' w.index head few.0 few.1) (sym (reads_is z));
        hands = record {
          taken = record {
            is_accepted = sym p ∙ ap accepted (sym (job_same job nums nums' w.index head few.0 few.1));
            indexed = indexed_same job nums nums' w.index head few.0 few.1 v;
            few = few.1;
          };
          orders = held_orders files area nums' s (w.held z) j text (done_is z);
          top = held_top files area nums' s (w.held z);
          logged = rw (log_is z) (rw (reading_is job nums head v) at (w.comes.logged z));
        };
      }
  read_when false e =
      let z : after_reading j (reading_of files area nums' text o) ≡ stops (tag_of o.stop) s.count.commands = rw e in
      rw e record { says = sym (intent_is ∙ (ap (after_reading j) (sym come) ∙ z)); hands = tt }

  pub taken_read : (r : Result Records Stopped) → r ≡ records_after head o → RecordsRead job files area nums' log₀ log r
  taken_read r e = rw e (read_when (eqb (tag_of o.stop) 0) refl)

-- ---- by the job reader's answer
module _ (job : Bytes) (nums₀ nums : List ℕ) (a : Result Header Refused) (jr : JobRead job nums₀ nums a) where
  pub halted : (x : Refused) → a ≡ Err x → (k : ℕ) → k ≡ number_of x.refusal → (y : ℕ) → y ≡ k → (files area log₀ log : Bytes) → RecordsRead job files area nums log₀ log (Err (record { number = y; place = x.line }))
  halted x e k ek y ey files area log₀ log = stopped_read job files area nums log₀ log y x.line (rw (ey, ek) (rw e at jr.says))

  module _ (head : Header) (e : a ≡ Ok head) where
    taken_is : accepted (job_of job nums head) ≡ parse job
    taken_is = rw e at jr.says

    indexed_is : Indexed job nums head (job_of job nums head)
    indexed_is = rw e at jr.found

    few_are : (head.files ≤ 32) × (head.modules ≤ 128)
    few_are = rw e at jr.counts

    pub started : (files area : Bytes) → (length files ≡ 65536) × ((length area ≡ 65536) × (16384 ≤ length nums₀)) → Starts job files area nums head.files head.startfile
    started files area h =
        accepted_starts job files area nums head (job_of job nums head) indexed_is (sym taken_is) h.0 (omega (arith, h.1.0)) (omega (arith, h.0, h.1.0)) (omega (arith, jr.long, h.1.1))

    pub ended : (nums' : List ℕ) (files₀ files area₀ area log₀ log : Bytes) (o : Out) → WasRead job files₀ files area₀ area nums nums' log₀ log head.files head.startfile o → (r : Result Records Stopped) → r ≡ records_after head o
        → RecordsRead job files area nums' log₀ log r
    ended nums' files₀ files area₀ area log₀ log o w r k = taken_read job nums nums' head taken_is indexed_is few_are files₀ files area₀ area log₀ log o w r k
