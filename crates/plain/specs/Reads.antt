-- What of the invariant no command looks at, and what an answer stands for by its number. Assumes nothing.
use Rattle.std.specs.Prelude.{ℕ, ◌+◌, ◌≤◌, ◌≡◌, refl, Bool, true, false, cond, ◌&&◌, List, eqb}
use Rattle.std.proofs.Common.{arith, add-zero, ap, ◌∙◌, eq-eqb, ne_eqb, le-leb}
use Rattle.text.specs.Ascii.{Bytes}
use Rattle.model.specs.Names.{Named}
use Rattle.model.specs.Records.{Model}
use Rattle.model.specs.Within.{Counted, records_fit, counts_fit}
use Rattle.read.specs.Reading.{Reading, done, refused, Line, acts_by, scopes_by}
use Rattle.store.specs.View.{Store, model_of}
use Rattle.store.specs.declared.state.State.{State}
use Rattle.scopes.specs.declared.go.Out.{Out}
use Rattle.scopes.specs.Stops.{tag_of}
use Rattle.held.specs.Held.{model_at, counted_of, reading_of, Lends, Held, Comes}
use Rattle.loads.specs.Steps.{acted}

-- ---- the state before its row is put: what of the invariant no command looks at
pub record Steady (files area nums : List ℕ) (s : State) : Type 0 where
  pub lends : Lends files area nums
  pub commands : s.count.commands ≤ 1024
  pub substituted : s.count.substituted ≤ 16384
  pub scopes : s.count.scopes ≤ 8192
  pub entries : s.count.entries ≤ 1024
  pub end : s.fill.end ≤ s.count.substituted + s.count.scopes
  pub rows : s.fill.rows + 1 ≤ s.count.commands

pub steady : (files area nums : List ℕ) (s : State) → Held files area nums 1 s → s.count.commands ≤ 1024 → Steady files area nums s
steady files area nums s v h = record { lends = v.lends; commands = h; substituted = v.substituted; scopes = v.scopes; entries = v.entries; end = v.end; rows = v.rows }

pub model_log : (mem : Bytes) (st : Store) (s : State) (log : Bytes) → (model_of mem st s log).log ≡ log
unfolding model_of
model_log mem st s log = refl

pub cond_true : {A : Type 0} (b : Bool) (x y : A) → b ≡ true → cond b x y ≡ x
cond_true b x y e = rw e

pub cond_false : {A : Type 0} (b : Bool) (x y : A) → b ≡ false → cond b x y ≡ y
cond_false b x y e = rw e

module _ (files area nums : List ℕ) (log : Bytes) (o : Out) where
  pub reading_done : (n : Counted) (t : Model) → tag_of o.stop ≡ 0 → counted_of o.state ≡ n → model_at files area nums o.state log ≡ t → reading_of files area nums log o ≡ done n t
  reading_done n t z p q =
      cond_true (eqb (tag_of o.stop) 0) (done (counted_of o.state) (model_at files area nums o.state log)) (refused (tag_of o.stop) o.state.count.commands) (eq-eqb (tag_of o.stop) 0 z)
      ∙ ap (λ (x : Counted). done x (model_at files area nums o.state log)) p
      ∙ ap (done n) q

  pub reading_refused : (k : ℕ) → tag_of o.stop ≡ 10 → o.state.count.commands ≡ k → reading_of files area nums log o ≡ refused 10 k
  reading_refused k z p =
      cond_false (eqb (tag_of o.stop) 0) (done (counted_of o.state) (model_at files area nums o.state log)) (refused (tag_of o.stop) o.state.count.commands) (ne_eqb (tag_of o.stop) 0 (λ q. absurd (omega (arith, z, q))))
      ∙ ap (λ (x : ℕ). refused x o.state.count.commands) z
      ∙ ap (refused 10) p

-- ---- a command that moves no scope is carried out within the limits of records alone
counts_on : (n : Counted) (k : ℕ) → k ≡ 0 → ◌≡◌ {A = Counted} (record { commands = n.commands; substituted = n.substituted; scopes = n.scopes + k; entries = n.entries }) n
counts_on n k e = rw (e, add-zero)

module _ (files area nums : List ℕ) (s : State) (v : Steady files area nums s) where
  counts_fit_lem : counts_fit (counted_of s) ≡ true
  counts_fit_lem = rw (le-leb s.count.commands 1024 v.commands, le-leb s.count.substituted 16384 v.substituted, le-leb s.count.scopes 8192 v.scopes, le-leb s.count.entries 1024 v.entries)

  pub acted_is : (c : Named) (l : Line) (m : Model) → scopes_by c l (acts_by c m l) ≡ 0 → acted c l (counted_of s) m ≡ cond (records_fit (acts_by c m l)) (done (counted_of s) (acts_by c m l)) (refused 10 s.count.commands)
  acted_is c l m z =
      ap (λ (x : Counted). cond (counts_fit x && records_fit (acts_by c m l)) (done x (acts_by c m l)) (refused 10 s.count.commands)) (counts_on (counted_of s) (scopes_by c l (acts_by c m l)) z)
      ∙ ap (λ (b : Bool). cond (b && records_fit (acts_by c m l)) (done (counted_of s) (acts_by c m l)) (refused 10 s.count.commands)) counts_fit_lem

pub comes_at : (files area nums log₀ log : List ℕ) (o : Out) (d d' : Reading) → d ≡ d' → Comes files area nums log₀ log o d' → Comes files area nums log₀ log o d
comes_at files area nums log₀ log o d d' e v = rw e v
