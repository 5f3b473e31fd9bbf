-- Laws: an accepted job, indexed, can be read whole, and its reading is the job's. Assumes nothing.
use Rattle.std.specs.Prelude.{ℕ, zero, suc, ◌≤◌, ◌≡◌, refl, Bool, true, false, not, ◌||◌, List, [], ◌∷◌, map, length, drop, Some}
use Rattle.std.proofs.Common.{arith, sym, ap, ◌∙◌}
use Rattle.text.specs.Ascii.{Bytes}
use Rattle.text.specs.Compare.{same}
use Rattle.text.specs.Scan.{any}
use Rattle.text.specs.Sames.{no_true, both, same_refl, same_eq}
use Rattle.joblines.specs.Job.{Job, File}
use Rattle.joblines.specs.Parse.{parse, accepted}
use Rattle.jobindex.specs.declared.Header.{Header}
use Rattle.jobindex.specs.Index.{path_at, body_at, file_at, rows, Indexed}
use Rattle.jobindex.specs.Rows.{rows_length, rows_here}
use Rattle.jobfacts.specs.WellFormed.{distinct, WellFormed}
use Rattle.jobfacts.proofs.Accepted.{accepted_good}
use Rattle.jobfacts.specs.Bodies.{body_size, size_more, accepted_bodies}
use Rattle.joined.specs.Joined.{body_bytes}
use Rattle.read.specs.Reading.{file_named}
use Rattle.loads.specs.Steps.{files_in}
use Rattle.std.proofs.lemmas.Bool.{not-true}

-- ---- of distinct paths, each names its own file
abbrev paths : List File → List Bytes
paths fs = map (λ (f : File). f.path) fs

-- none of them is p
other_path : (fs : List File) (k : ℕ) (f : File) (r : List File) (p : Bytes) → drop k fs ≡ f ∷ r → any (λ y. same y p) (paths fs) ≡ false → same f.path p ≡ false
unfolding any
other_path [] zero f r p e h = absurd (let z : ◌≡◌ {A = ℕ} 0 1 = cc in omega arith)
other_path [] (suc k) f r p e h = absurd (let z : ◌≡◌ {A = ℕ} 0 1 = cc in omega arith)
other_path (x ∷ xs) zero f r p e h = let z : x ≡ f = cc in rw z at (or_left (same x.path p) (any (λ y. same y p) (paths xs)) h)
  where
    or_left : (a b : Bool) → a || b ≡ false → a ≡ false
    or_left true b h = h
    or_left false b h = refl
other_path (x ∷ xs) (suc k) f r p e h = other_path xs k f r p e (or_right (same x.path p) (any (λ y. same y p) (paths xs)) h)
  where
    or_right : (a b : Bool) → a || b ≡ false → b ≡ false
    or_right true b h = absurd (no_true (sym h))
    or_right false b h = h

same_other : (p q : Bytes) → same p q ≡ false → same q p ≡ false
same_other p q h = go (same q p) refl
  where
    go : (b : Bool) → same q p ≡ b → b ≡ false
    go false e = refl
    go true e = let z : q ≡ p = same_eq q p e in absurd (no_true (sym h ∙ ap (λ (x : Bytes). same p x) z ∙ same_refl p))

pub named_at : (fs : List File) (k : ℕ) (f : File) (r : List File) → drop k fs ≡ f ∷ r → distinct (paths fs) ≡ true → file_named fs f.path ≡ Some f.body
unfolding distinct file_named
named_at [] zero f r e h = absurd (let z : ◌≡◌ {A = ℕ} 0 1 = cc in omega arith)
named_at [] (suc k) f r e h = absurd (let z : ◌≡◌ {A = ℕ} 0 1 = cc in omega arith)
named_at (x ∷ xs) zero f r e h = let z : x ≡ f = cc in rw (z, same_refl f.path)
named_at (x ∷ xs) (suc k) f r e h =
    let b = both (not (any (λ y. same y x.path) (paths xs))) (distinct (paths xs)) h in
    let o : same x.path f.path ≡ false = same_other f.path x.path (other_path xs k f r x.path e (not-true (any (λ y. same y x.path) (paths xs)) b.0)) in
    rw o (named_at xs k f r e b.1)

-- ---- the bodies
pub bodies_size : (job : Bytes) (nums : List ℕ) (n : ℕ) → body_bytes job nums n ≡ body_size (rows (file_at job nums) n)
unfolding body_bytes body_size rows
bodies_size job nums zero = refl
bodies_size job nums (suc n) = omega (arith, bodies_size job nums n, size_more (rows (file_at job nums) n) (file_at job nums n))

-- EVERY ACCEPTED JOB CAN BE READ
module _ (job files area nums : List ℕ) (head : Header) (j : Job) (v : Indexed job nums head j) (p : parse job ≡ accepted j) where
  files_are : files_in job nums head.files ≡ j.files
  files_are = ap (λ (x : Job). x.files) v.stands

  good : WellFormed j
  good = accepted_good job j p

  pub few : head.files ≤ 32
  few = omega (arith, good.lists.files_few, ap length files_are, rows_length (file_at job nums) head.files)

  pub start_named : file_named (files_in job nums head.files) (path_at job nums head.startfile) ≡ Some (body_at job nums head.startfile)
  start_named =
      let d : distinct (paths (files_in job nums head.files)) ≡ true = rw files_are good.lists.files_distinct in
      named_at (files_in job nums head.files) head.startfile (file_at job nums head.startfile) _ (rows_here (file_at job nums) head.files head.startfile v.start_row) d

  pub bodies_within : body_bytes job nums head.files ≤ 65536
  bodies_within =
      let q : body_size (files_in job nums head.files) ≡ body_size j.files = ap body_size files_are in
      omega (arith, q, bodies_size job nums head.files, (accepted_bodies job j p).0, (accepted_bodies job j p).1)
