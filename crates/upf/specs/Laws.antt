-- Laws: from the parts to the answer. Assumes nothing.
use Rattle.std.specs.Prelude.{ℕ, zero, suc, ◌+◌, ◌≤◌, ◌<◌, ◌≡◌, Bool, true, false, cond, not, ◌||◌, List, [], ◌∷◌, ◌++◌, map, length, take, drop, replicate, Option, Some, Ok, Err}
use Rattle.std.proofs.Common.{arith, sym, ap, ◌∙◌, length-take, length-drop, length-append, take-append-drop}
use Rattle.std.proofs.Math.Path.{refl}
use borrow.Author.Tests.{le-leb, lt-leb}
use Rattle.text.specs.Ascii.{Bytes}
use Rattle.text.specs.Compare.{same}
use Rattle.text.specs.Scan.{any}
use Rattle.text.specs.Sames.{no_true, both, same_refl, same_eq}
use Rattle.out.specs.Clear.{cleared_from}
use Rattle.out.proofs.Cleared.{cleared_all}
use Rattle.joblines.specs.Job.{Module, Job}
use Rattle.joblines.specs.Parse.{Parsed, parse}
use Rattle.jobindex.specs.Index.{module_row, name_at, job_of}
use Rattle.jobindex.specs.Rows.{rows_here}
use Rattle.jobindex.specs.declared.Header.{Header}
use Rattle.jobfacts.proofs.Accepted.{accepted_good}
use Rattle.jobfacts.specs.Bodies.{accepted_bodies}
use Rattle.jobfacts.specs.WellFormed.{distinct}
use Rattle.design.specs.Lists.{first}
use Rattle.design.specs.Lookup.{module_named}
use Rattle.lines.specs.Cursors.{spanned}
use Rattle.lookup.specs.Rows.{modules}
use Rattle.walkfits.specs.Accepted.{accepted_short, accepted_filled}
use Rattle.walkfits.specs.Limited.{accepted_limited}
use Rattle.model.specs.Records.{Model}
use Rattle.read.specs.Reading.{Reading, reading}
use Rattle.store.specs.Rows.{store_of}
use Rattle.store.specs.Strings.{maybe_of}
use Rattle.store.specs.View.{model_of}
use Rattle.store.specs.declared.state.State.{State}
use Rattle.texts.specs.Scope.{Scope, scope_of}
use Rattle.texts.specs.Setting.{setting_of}
use Rattle.texts.specs.Texts.{glue_of, package_of, report_of, fits}
use Rattle.scope.specs.Parts.{parts}
use Rattle.findscope.specs.Scopes.{path_text, number_of, Tells, Taken, Whole}
use Rattle.findscope.specs.declared.NoScope.{NoScope}
use Rattle.findscope.specs.declared.ScopeAt.{ScopeAt}
use Rattle.setting.specs.Orders.{Orders}
use Rattle.setting.specs.Stands.{setting_at, stands_at}
use Rattle.intent.specs.Intent.{Intent, reads, stops, intent_of, log_of, RecordsRead, after_parse as intent_after, after_reading as intent_read}
use Rattle.intent.specs.declared.Records.{Records}
use Rattle.intent.specs.declared.Stopped.{Stopped}
use Rattle.answers.specs.Answer.{Lent, Answer, answer, refused, fitted, after_parse, after_reading, below_top, in_scope, roomy, held}
use Rattle.answers.specs.Answers.{refused_by, stopped_by, fitted_by}
use Rattle.answers.specs.Stage.{Stage, set, stop, stage_in}
use Rattle.answers.specs.Told.{Fronts, refused_told, roomed, stage_told, cleared_held}
use Rattle.answers.specs.declared.Answer.{Answer as Code}
use Rattle.answers.specs.declared.Texts.{Texts}
use Rattle.generate.specs.Generates.{Asks, Generated}
use Rattle.upf.specs.Runs.{lent_of, Ran, Answered, Checked, StagedAt}

-- ---- checks 7 to 9
some_number : (e : NoScope) → number_of e ≡ 0 → ⊥
some_number NoScope.NoInstance h = omega arith
some_number NoScope.NoModule h = omega arith
some_number NoScope.TooMany h = omega arith

module _ (job : Bytes) (nums : List ℕ) (files area : Bytes) (head : Header) (s : State) (way₀ way : Bytes) where
  abbrev found : Scope
  found = scope_of (job_of job nums head) (module_row job nums head.topmodule) (maybe_of (files ++ area) s.head.top)

  pub staged_stop : (e : NoScope) → Tells job nums head way₀ way found (Err e) → (glue pkg report : Bytes) (k : ℕ) → k ≡ number_of e → (x : Texts) → x ≡ stopped_by k → StagedAt job nums files area head s glue glue pkg pkg report report x
  staged_stop e told glue pkg report k ek x ex log =
      let z : Scope.no_scope k ≡ found = rw ek told.says in
      let h : k ≡ 0 → ⊥ = rw ek (some_number e) in
      rw (← z) (ex, h)

  module _ (r : ScopeAt) (told : Tells job nums head way₀ way found (Ok r)) where
    found_is : Scope.at (parts (path_text job head way r) r.from) (module_row job nums r.row) ≡ found
    found_is = told.says

    pub asks : Taken job nums head → Orders files area nums s → length files ≡ 65536 → length area ≡ 65536 → length way₀ ≤ 65536 → (path : Bytes) → path ≡ path_text job head way r → Asks job nums head.modules r.row files area path s
    asks ok o lf la l path e =
        let small : length job ≤ 65536 = (accepted_bodies job (job_of job nums head) ok.is_accepted).1 in
        record {
          few = ok.few;
          row = told.within;
          job_short = small;
          path_short = rw e (go r.way);
          short = accepted_short job nums head (job_of job nums head) ok.indexed ok.is_accepted;
          within = accepted_limited job nums head (job_of job nums head) ok.indexed ok.is_accepted;
          filled = accepted_filled job nums head (job_of job nums head) ok.indexed ok.is_accepted;
          orders = o;
          memory_small = omega (arith, lf, la);
        }
      where
        go : (b : Bool) → length (cond b (take r.len way) (spanned job head.over)) ≤ 65536
        go true = omega (arith, length-take r.len way, told.long)
        go false = omega (arith, length-take head.over.len (drop head.over.at job), length-drop head.over.at job, (accepted_bodies job (job_of job nums head) ok.is_accepted).1)

    pub staged_texts : (path top : Bytes) → path ≡ path_text job head way r → top ≡ spanned job head.top → (glue₀ glue pkg₀ pkg report₀ report : Bytes) (x : Texts)
        → Generated job nums head.modules r.row files area path r.from top s glue₀ glue pkg₀ pkg report₀ report x
        → StagedAt job nums files area head s glue₀ glue pkg₀ pkg report₀ report x
    staged_texts path top ep et glue₀ glue pkg₀ pkg report₀ report x g log =
        let k = g (setting_at job nums head.modules r.row files area path r.from top s log) (stands_at job nums head.modules r.row files area path r.from top s log) in
        rw (← found_is) (rw (ep, et) at k)

-- ---- of distinct names, each names its own module
abbrev names : List Module → List Bytes
names ms = map (λ (m : Module). m.name) ms

not_true : (b : Bool) → not b ≡ true → b ≡ false
not_true true h = sym h
not_true false h = refl

other_name : (ms : List Module) (k : ℕ) (m : Module) (r : List Module) (p : Bytes) → drop k ms ≡ m ∷ r → any (λ y. same y p) (names ms) ≡ false → same m.name p ≡ false
unfolding any
other_name [] zero m r p e h = absurd (let z : ◌≡◌ {A = ℕ} 0 1 = cc in omega arith)
other_name [] (suc k) m r p e h = absurd (let z : ◌≡◌ {A = ℕ} 0 1 = cc in omega arith)
other_name (x ∷ xs) zero m r p e h = let z : x ≡ m = cc in rw z at (or_left (same x.name p) (any (λ y. same y p) (names xs)) h)
  where
    or_left : (a b : Bool) → a || b ≡ false → a ≡ false
    or_left true b h = h
    or_left false b h = refl
other_name (x ∷ xs) (suc k) m r p e h = other_name xs k m r p e (or_rest (same x.name p) (any (λ y. same y p) (names xs)) h)
  where
    or_rest : (a b : Bool) → a || b ≡ false → b ≡ false
    or_rest true b h = absurd (no_true (sym h))
    or_rest false b h = h

same_other : (p q : Bytes) → same p q ≡ false → same q p ≡ false
same_other p q h = go (same q p) refl
  where
    go : (b : Bool) → same q p ≡ b → b ≡ false
    go false e = refl
    go true e = let z : q ≡ p = same_eq q p e in absurd (no_true (sym h ∙ ap (λ (x : Bytes). same p x) z ∙ same_refl p))

named_here : (ms : List Module) (k : ℕ) (m : Module) (r : List Module) → drop k ms ≡ m ∷ r → distinct (names ms) ≡ true → module_named ms m.name ≡ Some m
unfolding distinct first
named_here [] zero m r e h = absurd (let z : ◌≡◌ {A = ℕ} 0 1 = cc in omega arith)
named_here [] (suc k) m r e h = absurd (let z : ◌≡◌ {A = ℕ} 0 1 = cc in omega arith)
named_here (x ∷ xs) zero m r e h = let z : x ≡ m = cc in rw (z, same_refl m.name)
named_here (x ∷ xs) (suc k) m r e h =
    let b = both (not (any (λ y. same y x.name) (names xs))) (distinct (names xs)) h in
    let o : same x.name m.name ≡ false = same_other m.name x.name (other_name xs k m r x.name e (not_true (any (λ y. same y x.name) (names xs)) b.0)) in
    rw o (named_here xs k m r e b.1)

row_name_lem : (job : Bytes) (nums : List ℕ) (k : ℕ) → (module_row job nums k).name ≡ name_at job nums k
unfolding module_row name_at
row_name_lem job nums k = refl

-- the top is the module of its row
pub top_named : (job : Bytes) (nums : List ℕ) (head : Header) → Taken job nums head → module_named (modules job nums head.modules) (spanned job head.top) ≡ Some (module_row job nums head.topmodule)
top_named job nums head ok =
    let d : distinct (names (modules job nums head.modules)) ≡ true = (accepted_good job (job_of job nums head) ok.is_accepted).lists.modules_distinct in
    let n : (module_row job nums head.topmodule).name ≡ spanned job head.top = row_name_lem job nums head.topmodule ∙ ok.indexed.top_is in
    ap (module_named (modules job nums head.modules)) (sym n)
    ∙ named_here (modules job nums head.modules) head.topmodule (module_row job nums head.topmodule) _ (rows_here (module_row job nums) head.modules head.topmodule ok.indexed.top_row) d

-- ---- checks 2 to 10
abbrev on_intent : Lent → Intent → Answer
on_intent l (reads j m) = below_top l j m (module_named j.modules j.top)
on_intent l (stops x k) = refused x k

by_intent : (l : Lent) (job : Bytes) → after_parse l (parse job) ≡ on_intent l (intent_of job)
unfolding intent_of
by_intent l job = go (parse job)
  where
    read : (j : Job) (r : Reading) → after_reading l j r ≡ on_intent l (intent_read j r)
    read j (Reading.done n m) = refl
    read j (Reading.refused x k) = refl

    go : (p : Parsed) → after_parse l p ≡ on_intent l (intent_after p)
    go (Parsed.accepted j) = read j (reading j)
    go (Parsed.refused x n) = refl

in_scope_lem : (l : Lent) (j : Job) (m : Model) (s : Scope) → in_scope l j m s ≡ roomed l (stage_in j m s) m.log
in_scope_lem l j m (Scope.at path base) = go (fits (setting_of j path base m))
  where
    go : (b : Bool) → cond b (fitted l (glue_of (setting_of j path base m)) (package_of (setting_of j path base m)) (report_of (setting_of j path base m)) m.log) (refused 13 0) ≡ roomed l (cond b (set (setting_of j path base m)) (stop 13)) m.log
    go true = refl
    go false = refl
in_scope_lem l j m (Scope.no_scope n) = refl

module _ (job files area : Bytes) (nums : List ℕ) (log₀ log : Bytes) where
  pub checked_stop : (q : Stopped) → RecordsRead job files area nums log₀ log (Err q) → (r : Code) → r ≡ refused_by q.number q.place → (glue pkg report : Bytes) → Checked job glue glue pkg pkg report report log₀ log r
  checked_stop q read r e glue pkg report f a n =
      let z : stops q.number q.place ≡ intent_of job = read.says in
      rw (by_intent (lent_of f a n glue pkg report log₀) job, ← z) (refused_told q.number q.place glue pkg report log r e)

  module _ (q : Records) (read : RecordsRead job files area nums log₀ log (Ok q)) where
    pub checked_asks : length files ≡ 65536 → length area ≡ 65536 → Taken job nums q.head × (Orders files area nums q.state × (Whole (length files) q.state.head.top × ((length files ≡ 65536) × (length area ≡ 65536))))
    checked_asks f a = (read.hands.taken, (read.hands.orders, (read.hands.top, (f, a))))

    abbrev text : Bytes
    text = log_of (intent_of job)

    abbrev record_of : Model
    record_of = model_of (files ++ area) (store_of nums q.state) q.state text

    intent_reads : reads (job_of job nums q.head) record_of ≡ intent_of job
    intent_reads = read.says

    log_kept : record_of.log ≡ text
    unfolding model_of
    log_kept = refl

    top_kept : record_of.design_top ≡ maybe_of (files ++ area) q.state.head.top
    unfolding model_of
    top_kept = refl

    abbrev staged_here : Stage
    staged_here = stage_in (job_of job nums q.head) record_of (scope_of (job_of job nums q.head) (module_row job nums q.head.topmodule) (maybe_of (files ++ area) q.state.head.top))

    answer_here : (l : Lent) → after_parse l (parse job) ≡ roomed l staged_here text
    answer_here l =
        by_intent l job
        ∙ (ap (on_intent l) (sym intent_reads)
        ∙ (ap (below_top l (job_of job nums q.head) record_of) (top_named job nums q.head read.hands.taken)
        ∙ (ap (λ (o : Option Bytes). in_scope l (job_of job nums q.head) record_of (scope_of (job_of job nums q.head) (module_row job nums q.head.topmodule) o)) top_kept
        ∙ (in_scope_lem l (job_of job nums q.head) record_of (scope_of (job_of job nums q.head) (module_row job nums q.head.topmodule) (maybe_of (files ++ area) q.state.head.top))
        ∙ ap (roomed l staged_here) log_kept))))

    pub checked_texts : (glue₀ glue pkg₀ pkg report₀ report : Bytes) (t : Texts) → StagedAt job nums files area q.head q.state glue₀ glue pkg₀ pkg report₀ report t → length log ≡ length log₀
        → (r : Code) → r ≡ fitted_by t q.state.fill.log (record { glue = length glue₀; pkg = length pkg₀; report = length report₀; log = length log })
        → Checked job glue₀ glue pkg₀ pkg report₀ report log₀ log r
    checked_texts glue₀ glue pkg₀ pkg report₀ report t g k r e f a n =
        rw (answer_here (lent_of f a n glue₀ pkg₀ report₀ log₀))
        (stage_told (lent_of f a n glue₀ pkg₀ report₀ log₀) glue₀ glue pkg₀ pkg report₀ report log₀ log text q.state.fill.log read.hands.logged (record { glue = length glue₀; pkg = length pkg₀; report = length report₀; log = length log }) r refl refl refl k refl refl refl refl t e staged_here (g text))

-- ---- check 1
module _ (job : Bytes) (files area nums : ℕ) (glue₀ glue pkg₀ pkg report₀ report log₀ log : Bytes) (r : Code) where
  abbrev l : Lent
  l = lent_of files area nums glue₀ pkg₀ report₀ log₀

  not_roomy : roomy l ≡ false → r ≡ refused_by 1 0 → Answered job files area nums glue₀ glue pkg₀ pkg report₀ report log₀ log r
  unfolding answer
  not_roomy h e = rw h (refused_told 1 0 glue pkg report log r e)

  pub files_short : files < 65536 → r ≡ refused_by 1 0 → Answered job files area nums glue₀ glue pkg₀ pkg report₀ report log₀ log r
  files_short h e = not_roomy (rw (lt-leb 65536 files h)) e

  pub area_short : 65536 ≤ files → area < 65536 → r ≡ refused_by 1 0 → Answered job files area nums glue₀ glue pkg₀ pkg report₀ report log₀ log r
  area_short f h e = not_roomy (rw (le-leb 65536 files f, lt-leb 65536 area h)) e

  pub nums_short : 65536 ≤ files → 65536 ≤ area → nums < 16384 → r ≡ refused_by 1 0 → Answered job files area nums glue₀ glue pkg₀ pkg report₀ report log₀ log r
  nums_short f a h e = not_roomy (rw (le-leb 65536 files f, le-leb 65536 area a, lt-leb 16384 nums h)) e

  pub all_roomy : 65536 ≤ files → 65536 ≤ area → 16384 ≤ nums → Checked job glue₀ glue pkg₀ pkg report₀ report log₀ log r → Answered job files area nums glue₀ glue pkg₀ pkg report₀ report log₀ log r
  unfolding answer
  all_roomy f a n c = rw (le-leb 65536 files f, le-leb 65536 area a, le-leb 16384 nums n) (c files area nums)

-- a front that was lent and came back in its length
pub relent : (n : ℕ) (s p : List ℕ) → length p ≡ length (take n s) → length (p ++ drop n s) ≡ length s
relent n s p h = omega (arith, h, length-append p (drop n s), length-append (take n s) (drop n s), ap length (take-append-drop n s))

-- ---- and all is cleared
cleared_to : (t buf₀ buf : Bytes) (n : ℕ) → Fronts t buf n → length buf ≡ length buf₀ → cleared_from n buf ≡ held (length buf₀) t
cleared_to t buf₀ buf n f k = cleared_held t buf n f ∙ ap (λ (x : ℕ). held x t) k

zeros : (s₀ s : List ℕ) → length s ≡ length s₀ → cleared_from 0 s ≡ replicate (length s₀) 0
zeros s₀ s k = cleared_all s ∙ ap (λ (x : ℕ). replicate x 0) k

pub ran : (job files₀ files₁ files₂ area₀ area₁ area₂ : Bytes) (nums₀ nums₁ nums₂ : List ℕ) (glue₀ glue₁ glue₂ pkg₀ pkg₁ pkg₂ report₀ report₁ report₂ log₀ log₁ log₂ : Bytes) (r : Code)
    → Answered job (length files₀) (length area₀) (length nums₀) glue₀ glue₁ pkg₀ pkg₁ report₀ report₁ log₀ log₁ r
    → length files₁ ≡ length files₀ → length area₁ ≡ length area₀ → length nums₁ ≡ length nums₀ → length glue₁ ≡ length glue₀ → length pkg₁ ≡ length pkg₀ → length report₁ ≡ length report₀ → length log₁ ≡ length log₀
    → files₂ ≡ cleared_from 0 files₁ → area₂ ≡ cleared_from 0 area₁ → nums₂ ≡ cleared_from 0 nums₁ → glue₂ ≡ cleared_from r.glue glue₁ → pkg₂ ≡ cleared_from r.pkg pkg₁ → report₂ ≡ cleared_from r.report report₁ → log₂ ≡ cleared_from r.log log₁
    → Ran job files₀ files₂ area₀ area₂ nums₀ nums₂ glue₀ glue₂ pkg₀ pkg₂ report₀ report₂ log₀ log₂ r
ran job files₀ files₁ files₂ area₀ area₁ area₂ nums₀ nums₁ nums₂ glue₀ glue₁ glue₂ pkg₀ pkg₁ pkg₂ report₀ report₁ report₂ log₀ log₁ log₂ r t kf ka kn kg kp kr kl ef ea en eg ep er el =
    record {
      number_is = t.number_is;
      place_is_lem = t.place_is_lem;
      glue_long = t.glue_is.long;
      pkg_long = t.pkg_is.long;
      report_long = t.report_is.long;
      log_long = t.log_is.long;
      glue_is = eg ∙ cleared_to _ glue₀ glue₁ r.glue t.glue_is kg;
      pkg_is = ep ∙ cleared_to _ pkg₀ pkg₁ r.pkg t.pkg_is kp;
      report_is = er ∙ cleared_to _ report₀ report₁ r.report t.report_is kr;
      log_is = el ∙ cleared_to _ log₀ log₁ r.log t.log_is kl;
      files_cleared = ef ∙ zeros files₀ files₁ kf;
      area_cleared = ea ∙ zeros area₀ area₁ ka;
      nums_cleared = en ∙ zeros nums₀ nums₁ kn;
    }
