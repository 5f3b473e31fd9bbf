-- An accepted job: what its texts were made of; jobs that are alike but for their retentions.
-- Assumes nothing.
use Rattle.std.specs.Prelude.{ℕ, ◌≡◌, Bool, true, false, cond, Option, None, Some}
use Rattle.std.proofs.Common.{arith, ◌∙◌}
use Rattle.std.proofs.Math.Path.{refl, sym}
use mathlib.Core.List.Memᴰ.{head as here}
use mathlib.Core.List.Memᴰ.{tail as there}
use mathlib.Core.List.{List, [], ◌∷◌, ◌++◌, Memᴰ as Mem}
use Rattle.text.specs.Ascii.{Bytes}
use Rattle.joblines.specs.Job.{Module, Job}
use Rattle.joblines.specs.Parse.{Parsed, parse, accepted}
use Rattle.design.specs.Lookup.{module_named}
use Rattle.walk.specs.Reach.{Scope as Exists}
use Rattle.walk.specs.Walk.{domain_list}
use Rattle.model.specs.Records.{Domain, Model}
use Rattle.model.specs.Within.{Counted}
use Rattle.read.specs.Reading.{Reading, reading}
use Rattle.texts.specs.Scope.{Scope, scope_of}
use Rattle.texts.specs.Setting.{Setting, setting_of}
use Rattle.texts.specs.Domains.{retained_entries, lost_paths}
use Rattle.texts.specs.Texts.{glue_of, package_of, report_of, fits}
use Rattle.texts.proofs.Blocks.{scope_exists}
use Rattle.answers.specs.Answer.{Lent, Answer, all_fit, in_scope, below_top, after_reading, after_parse, roomy, answer}

-- ---- an accepted job

-- the texts of a job, and what they were made of: the job's lines, the records that its commands left, the scope
pub record Accepted (l : Lent) (t g p r o : Bytes) : Type 0 where
  pub job : Job
  pub parsed : parse t ≡ accepted job
  pub counts : Counted
  pub records : Model
  pub carried_out : reading job ≡ Reading.done counts records
  pub top : Module
  pub is_top : module_named job.modules job.top ≡ Some top
  pub path : List Bytes
  pub base : Module
  pub scope_at : scope_of job top records.design_top ≡ Scope.at path base
  pub within : fits (setting_of job path base records) ≡ true
  pub glue_is : g ≡ glue_of (setting_of job path base records)
  pub package_is : p ≡ package_of (setting_of job path base records)
  pub report_is : r ≡ report_of (setting_of job path base records)
  pub log_is : o ≡ records.log

-- every job that is answered with texts is one
module _ (l : Lent) (t g p r o : Bytes) where
  no : {x k : ℕ} {A : Type 0} → Answer.refused x k ≡ Answer.texts g p r o → A
  no e = let z : ◌≡◌ {A = ℕ} 0 1 = cc in absurd (omega arith)

  module _ (j : Job) (a : parse t ≡ accepted j) (n : Counted) (m : Model) (c : reading j ≡ Reading.done n m) (top : Module) (i : module_named j.modules j.top ≡ Some top) where
    made : (path : List Bytes) (base : Module) → scope_of j top m.design_top ≡ Scope.at path base → (f : Bool) → fits (setting_of j path base m) ≡ f
        → (b : Bool) → cond f (cond b (Answer.texts (glue_of (setting_of j path base m)) (package_of (setting_of j path base m)) (report_of (setting_of j path base m)) m.log) (Answer.refused 14 0)) (Answer.refused 13 0) ≡ Answer.texts g p r o
        → Accepted l t g p r o
    made path base s true f true e =
        record {
          job = j;
          parsed = a;
          counts = n;
          records = m;
          carried_out = c;
          top = top;
          is_top = i;
          path = path;
          base = base;
          scope_at = s;
          within = f;
          glue_is = cc;
          package_is = cc;
          report_is = cc;
          log_is = cc;
        }
    made path base s true f false e = no e
    made path base s false f b e = no e

    by_scope : (x : Scope) → scope_of j top m.design_top ≡ x → in_scope l j m x ≡ Answer.texts g p r o → Accepted l t g p r o
    by_scope (Scope.at path base) s e = made path base s (fits (setting_of j path base m)) refl (all_fit l (glue_of (setting_of j path base m)) (package_of (setting_of j path base m)) (report_of (setting_of j path base m)) m.log) e
    by_scope (Scope.no_scope k) s e = no e

  by_top : (j : Job) → parse t ≡ accepted j → (n : Counted) (m : Model) → reading j ≡ Reading.done n m → (x : Option Module) → module_named j.modules j.top ≡ x → below_top l j m x ≡ Answer.texts g p r o → Accepted l t g p r o
  by_top j a n m c None i e = no e
  by_top j a n m c (Some top) i e = by_scope j a n m c top i (scope_of j top m.design_top) refl e

  by_reading : (j : Job) → parse t ≡ accepted j → (x : Reading) → reading j ≡ x → after_reading l j x ≡ Answer.texts g p r o → Accepted l t g p r o
  by_reading j a (Reading.done n m) c e = by_top j a n m c (module_named j.modules j.top) refl e
  by_reading j a (Reading.refused x k) c e = no e

  by_parse : (x : Parsed) → parse t ≡ x → after_parse l x ≡ Answer.texts g p r o → Accepted l t g p r o
  by_parse (Parsed.accepted j) a e = by_reading j a (reading j) refl e
  by_parse (Parsed.refused x n) a e = no e

  by_room : (b : Bool) → cond b (after_parse l (parse t)) (Answer.refused 1 0) ≡ Answer.texts g p r o → Accepted l t g p r o
  by_room true e = by_parse (parse t) refl e
  by_room false e = no e

  pub accepted_job : answer l t ≡ Answer.texts g p r o → Accepted l t g p r o
  unfolding answer
  accepted_job e = by_room (roomy l) e

-- the paths that are listed for a domain of an accepted job
abbrev pub setting_in : {l : Lent} {t g p r o : Bytes} → Accepted l t g p r o → Setting
setting_in a = setting_of a.job a.path a.base a.records

abbrev pub listed : {l : Lent} {t g p r o : Bytes} → Accepted l t g p r o → Domain → List Bytes
listed a d = lost_paths (setting_in a) d

module _ (l : Lent) (t g p r o : Bytes) (a : Accepted l t g p r o) where
  -- the scope of the job exists
  pub its_scope : Exists t a.job a.path a.base
  its_scope = scope_exists t a.job a.top a.records.design_top a.path a.base a.parsed a.is_top a.scope_at

-- a list has what stands in it
pub mem_at : {A : Type 0} (front : List A) (x : A) (back : List A) → Mem x (front ++ x ∷ back)
mem_at [] x back = here refl
mem_at (y ∷ front) x back = there (mem_at front x back)

-- ---- alike but for retentions

-- "Records are ..: design top, scope, domains, nets, supply ports, switches, isolations, retentions, shifters, port states, tables": those other than
-- retentions are equal
pub record SameBut (m n : Model) : Type 0 where
  pub design_top : m.design_top ≡ n.design_top
  pub scope : m.scope ≡ n.scope
  pub domains : m.domains ≡ n.domains
  pub nets : m.nets ≡ n.nets
  pub ports : m.ports ≡ n.ports
  pub switches : m.switches ≡ n.switches
  pub isolations : m.isolations ≡ n.isolations
  pub shifters : m.shifters ≡ n.shifters
  pub port_states : m.port_states ≡ n.port_states
  pub tables : m.tables ≡ n.tables

-- two accepted jobs "with equal module lines, top, override and records other than retentions"
pub record Alike {l l' : Lent} {t g p r o t' g' p' r' o' : Bytes} (a : Accepted l t g p r o) (b : Accepted l' t' g' p' r' o') : Type 0 where
  pub modules : a.job.modules ≡ b.job.modules
  pub top : a.job.top ≡ b.job.top
  pub override : a.job.override ≡ b.job.override
  pub records : SameBut a.records b.records

some_same : {x y : Module} → ◌≡◌ {A = Option Module} (Some x) (Some y) → x ≡ y
some_same e = cc

module _ {l l' : Lent} {t g p r o t' g' p' r' o' : Bytes} (a : Accepted l t g p r o) (b : Accepted l' t' g' p' r' o') (k : Alike a b) where
  same_top : a.top ≡ b.top
  same_top =
      let e : module_named b.job.modules b.job.top ≡ Some a.top = rw (← k.modules, ← k.top) a.is_top in
      some_same (sym e ∙ b.is_top)

  same_scope : Scope.at a.path a.base ≡ Scope.at b.path b.base
  unfolding scope_of
  same_scope = sym a.scope_at ∙ rw (k.modules, k.top, k.override, k.records.design_top, same_top) refl ∙ b.scope_at

  same_path : a.path ≡ b.path
  same_path = let e = same_scope in cc

  same_base : a.base ≡ b.base
  same_base = let e = same_scope in cc

  -- so a domain's list in one is that of the other with its own retained entries
  pub listed_alike : (d : Domain) → listed a d ≡ domain_list b.job.modules b.base b.path (retained_entries a.records) d.elements
  listed_alike d = rw (k.modules, same_base, same_path) refl
