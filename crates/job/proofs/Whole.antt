-- The checks of the whole job: its end, its bytes, and whether `start` and `top` are listed.
-- Assumes nothing.
use mathlib.Core.Path.{◌≡◌, refl, ap, ◌∙◌, sym}
use Prim.Native.Nat.{ℕ, ◌-◌, ◌<◌, ◌≤◌}
use native.Mathlib.Omega.{arith}
use mathlib.Core.Bool.{Bool, true, false, not, cond, and-false}
use mathlib.Core.List.{List, [], ◌∷◌, map}
use lib.ListN.{length, take, drop}
use lib.Dec.{ltb, eqb}
use borrow.Author.Tests.{lt-ltb, le-leb, lt-leb, eq-eqb, ne_eqb, not-true, not-false}
use Rattle.text.specs.Ascii.{Bytes}
use Rattle.text.specs.Classes.{is_ascii}
use Rattle.text.specs.Compare.{same}
use Rattle.text.specs.Scan.{all, any}
use Rattle.joblines.specs.Job.{File, Module, Job}
use Rattle.joblines.specs.Parse.{is_nothing, listed, parse}
use Rattle.jobindex.specs.declared.Header.{Header}
use Rattle.jobindex.specs.Index.{path_at, file_at, name_at, module_row, row_of, job_of}
use Rattle.jobindex.specs.Rows.{rows_map, row_any, row_within, row_is_lem}
use Rattle.jobsteps.specs.declared.Due.{Due}
use Rattle.jobsteps.specs.State.{due_of}
use Rattle.std.specs.Prelude.{Option, None, Some, is_some, Result, Ok, Err, IsErrAnd}
use Rattle.std.proofs.lemmas.Result.{err_from_is_err_and}
use Rattle.joblines.specs.declared.Refusal.TheVariants.{TooLong, NotAscii, NotListed}
use Rattle.job.specs.declared.Refused.{Refused}
use Rattle.job.specs.Reader.{refused_at, read_of, LinesRead, Listed, JobRead}

-- ---- there is no further line
module _ (job : Bytes) (at line : ℕ) (d : Due) (head : Header) (t : Bool) (et : t ≡ is_nothing (due_of [] d)) where
  abbrev ended : Result Header Refused
  ended = cond (is_nothing (due_of [] d)) (cond (eqb at (length job)) (Ok head) (Err (refused_at line))) (Err (refused_at line))

  pub end_due : not t ≡ true → Err (refused_at line) ≡ ended
  end_due h = rw (← et, not-true t h)

  module _ (h : not t ≡ false) where
    pub end_before : (at ≡ length job → ⊥) → Err (refused_at line) ≡ ended
    end_before n = rw (← et, not-false t h, ne_eqb at (length job) n)

    pub end_at : at ≡ length job → Ok head ≡ ended
    end_at e = rw (← et, not-false t h, eq-eqb at (length job) e)

-- ---- `start` and `top`
any_map : {A B : Type 0} (t : B → Bool) (g : A → B) (xs : List A) → any t (map g xs) ≡ any (λ a. t (g a)) xs
unfolding any
any_map t g [] = refl
any_map t g (x ∷ xs) = rw (any_map t g xs)

module _ (job index : List ℕ) (head : Header) where
  abbrev j : Job
  j = job_of job index head

  start_any : any (λ (f : File). same f.path j.start) j.files ≡ is_some (row_of (path_at job index) j.start head.files)
  start_any =
      sym (any_map (λ p. same p j.start) (λ (f : File). f.path) j.files)
      ∙ (ap (any (λ p. same p j.start)) (rows_map (file_at job index) (λ (f : File). f.path) head.files) ∙ row_any (path_at job index) j.start head.files)

  top_any : any (λ (m : Module). same m.name j.top) j.modules ≡ is_some (row_of (name_at job index) j.top head.modules)
  unfolding module_row name_at
  top_any =
      sym (any_map (λ p. same p j.top) (λ (m : Module). m.name) j.modules)
      ∙ (ap (any (λ p. same p j.top)) (rows_map (module_row job index) (λ (m : Module). m.name) head.modules) ∙ row_any (name_at job index) j.top head.modules)

  module _ (s : Bytes) (es : s ≡ take head.start.len (drop head.start.at job)) where
    file_is : (f : Option ℕ) → f ≡ row_of (path_at job index) s head.files → f ≡ row_of (path_at job index) j.start head.files
    file_is f ef = ef ∙ ap (λ p. row_of (path_at job index) p head.files) es

    pub start_not : None ≡ row_of (path_at job index) s head.files → Listed job index head (Err (record { refusal = NotListed; line = 0 }))
    start_not e = record { says = sym (rw (start_any, ← file_is None e)); found = tt; counts = omega arith }

    module _ (q : ℕ) (eq : Some q ≡ row_of (path_at job index) s head.files) (t : Bytes) (et : t ≡ take head.top.len (drop head.top.at job)) where
      root_is : (m : Option ℕ) → m ≡ row_of (name_at job index) t head.modules → m ≡ row_of (name_at job index) j.top head.modules
      root_is m em = em ∙ ap (λ p. row_of (name_at job index) p head.modules) et

      pub top_not : None ≡ row_of (name_at job index) t head.modules → Listed job index head (Err (record { refusal = NotListed; line = 0 }))
      top_not e = record { says = sym (rw (start_any, ← file_is (Some q) eq, top_any, ← root_is None e)); found = tt; counts = omega arith }

      pub listed_on : (r : ℕ) → Some r ≡ row_of (name_at job index) t head.modules → (head.files ≤ 32) × (head.modules ≤ 128)
          → Listed job index head (Ok (record { top = head.top; over = head.over; start = head.start; files = head.files; modules = head.modules; startfile = q; topmodule = r }))
      listed_on r er b =
          let file = file_is (Some q) eq in
          let root = root_is (Some r) er in
          record {
            says = sym (rw (start_any, ← file, top_any, ← root));
            found =
                record {
                  stands = refl;
                  start_row = row_within (path_at job index) j.start head.files q file;
                  start_is = row_is_lem (path_at job index) j.start head.files q file;
                  top_row = row_within (name_at job index) j.top head.modules r root;
                  top_is = row_is_lem (name_at job index) j.top head.modules r root;
                };
            counts = b;
          }

-- ---- the whole
module _ (job index : List ℕ) where
  pub job_long : 65536 < length job → JobRead job index index (Err (record { refusal = TooLong; line = 0 }))
  unfolding parse
  job_long h = record { says = rw (lt-leb (length job) 65536 h); found = tt; counts = omega arith; long = refl; kept = refl }

  module _ (h : length job ≤ 65536) (t : Bool) (et : t ≡ all is_ascii job) where
    pub job_not_ascii : not t ≡ true → JobRead job index index (Err (record { refusal = NotAscii; line = 0 }))
    unfolding parse
    job_not_ascii g = record { says = rw (le-leb (length job) 65536 h, ← et, not-true t g); found = tt; counts = omega arith; long = refl; kept = refl }

    module _ (g : not t ≡ false) (index' : List ℕ) (r : Result Header Refused) (s : LinesRead job index index' r) where
      parse_is : parse job ≡ listed (read_of job index' r)
      unfolding parse
      parse_is = rw (le-leb (length job) 65536 h, ← et, not-false t g, s.says)

      pub job_refused : (x : Refused) → r ≡ Err x → (a : Result Header Refused) → IsErrAnd a (λ y. y ≡ x) → JobRead job index index' a
      job_refused x e a q =
          let p = err_from_is_err_and a q in
          rw (p.1, p.2) (record { says = sym (parse_is ∙ rw e); found = tt; counts = rw e at s.counts; long = s.long; kept = s.kept })

      module _ (head : Header) (e : r ≡ Ok head) where
        pub job_listed : (a : Result Header Refused) → Listed job index' head a → JobRead job index index' a
        job_listed a l = record { says = l.says ∙ sym (parse_is ∙ rw e); found = l.found; counts = l.counts; long = s.long; kept = s.kept }
