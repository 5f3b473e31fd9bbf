-- Steps at lines that are looked at: `file=` and `module=`, between modules. l is the line that was lent, k what it was seen to be.
-- Assumes nothing.
use mathlib.Core.Path.{◌≡◌, refl, ap, ◌∙◌, sym}
use Prim.Native.Nat.{ℕ, ◌+◌, ◌-◌}
use native.Mathlib.Omega.{arith}
use mathlib.Core.List.{List, [], ◌∷◌, map}
use Rattle.std.specs.Prelude.{Bool, true, false, option_map, Option, None, Some, Result, Ok, Err}
use lib.ListN.{length, take, drop, length-drop}
use Rattle.text.specs.Ascii.{Bytes}
use Rattle.joblines.specs.Job.{File, Module, Job}
use Rattle.joblines.specs.Lines.{Checked, bad, good, and_then, Read, refuse, on, due_bytes, due_style, first_of, file_read, file_line, module_read, module_line}
use Rattle.joblines.specs.Forms.{verdict}
use Rattle.joblines.specs.Reads.{was_other, was_refused, was_good, file_taken, module_taken}
use Rattle.jobindex.specs.declared.Header.{Header}
use Rattle.jobindex.specs.declared.Open.{Open}
use Rattle.jobindex.specs.Index.{bytes_at, path_at, file_at, name_at, module_row, rows, job_of}
use Rattle.jobindex.specs.Rows.{rows_length, rows_map}
use Rattle.jobsteps.specs.declared.Step.{Step}
use Rattle.joblines.specs.Forms.{number_of}
use Rattle.joblines.specs.declared.Refusal.{Refusal}
use Rattle.joblines.specs.declared.Refusal.TheVariants.{Malformed}
use Rattle.jobsteps.specs.State.{line_of, Outside, Asked, Stepped, file_on, module_on}
use Rattle.std.specs.Prelude.{IsErrAnd}
use Rattle.std.proofs.lemmas.Result.{err_from_is_err_and}
use Rattle.jobsteps.proofs.Cutting.{from_end, line_length, value_is}
use Rattle.jobsteps.proofs.Heads.{refused_is, outside_on}

-- ---- a kind of which it is known what the line comes to, before other kinds
module _ {A : Type 0} (K : Job → Bytes → Bytes → Option Read) (ks : List (Job → Bytes → Bytes → Option Read)) (j : Job) (line rest : Bytes) (go : A → Read) (R : Option (Checked A)) (e : K j line rest ≡ option_map (λ (r : Checked A). and_then r go) R) where
  pub kind_other : R ≡ None → first_of (K ∷ ks) j line rest ≡ first_of ks j line rest
  kind_other h = rw (e, h)

  pub kind_refused : (x : ℕ) → R ≡ Some (bad x) → first_of (K ∷ ks) j line rest ≡ refuse x
  kind_refused x h = rw (e, h)

  pub kind_good : (a : A) → R ≡ Some (good a) → first_of (K ∷ ks) j line rest ≡ go a
  kind_good a h = rw (e, h)

-- what other kinds say is what all say
pub stepped_else : (job index index' : List ℕ) (from : ℕ) (a b : Read) (r : Result Step Refusal) → b ≡ a → Stepped job index index' from a r → Stepped job index index' from b r
stepped_else job index index' from a b r e s = record { says = s.says ∙ sym e; stands = s.stands; long = s.long; kept = s.kept }

module _ (job index : List ℕ) (from end : ℕ) (head : Header) (o : Open) (l : Bytes) (el : l ≡ take (end - from) (drop from job)) (pre : Asked job index from end (Outside job head from)) (ks : List (Job → Bytes → Bytes → Option Read)) where
  abbrev j : Job
  j = job_of job index head

  abbrev rest : Bytes
  rest = drop (end + 1) job

  -- ---- file=PATH
  file_is : file_line j (line_of job from end) rest ≡ option_map (λ (r : Checked Bytes). and_then r (λ p. on (due_bytes p) j rest)) (file_read (rows (path_at job index) head.files) l)
  unfolding file_line
  file_is = rw (rows_map (file_at job index) (λ (f : File). f.path) head.files, el)

  pub file_other : (k : Bool) → Ok k ≡ verdict (file_read (rows (path_at job index) head.files) l) → k ≡ false → (index' : List ℕ) (r : Result Step Refusal) → Stepped job index index' from (first_of ks j (line_of job from end) rest) r → Stepped job index index' from (first_of (file_line ∷ ks) j (line_of job from end) rest) r
  file_other k ek e index' r s = stepped_else job index index' from _ _ r (kind_other file_line ks j (line_of job from end) rest (λ p. on (due_bytes p) j rest) (file_read (rows (path_at job index) head.files) l) file_is (was_other (file_read (rows (path_at job index) head.files) l) (ap Ok (sym e) ∙ ek))) s

  pub file_none : (k : Bool) → Ok k ≡ verdict (file_read (rows (path_at job index) head.files) l) → k ≡ false → ks ≡ [] → Stepped job index index from (first_of (file_line ∷ ks) j (line_of job from end) rest) (Err Malformed)
  file_none k ek e n = file_other k ek e index (Err Malformed) (refused_is job index from Malformed _ (rw n))

  pub file_refused : (x : Refusal) → Err (number_of x) ≡ verdict (file_read (rows (path_at job index) head.files) l) → (r : Result Step Refusal) → IsErrAnd r (λ y. y ≡ x) → Stepped job index index from (first_of (file_line ∷ ks) j (line_of job from end) rest) r
  file_refused x ek r q =
      let p = err_from_is_err_and r q in
      rw (p.1, p.2) (refused_is job index from x _ (sym (kind_refused file_line ks j (line_of job from end) rest (λ p. on (due_bytes p) j rest) (file_read (rows (path_at job index) head.files) l) file_is (number_of x) (was_refused (file_read (rows (path_at job index) head.files) l) (number_of x) ek))))

  pub file_good : (k : Bool) → Ok k ≡ verdict (file_read (rows (path_at job index) head.files) l) → k ≡ true → (r : Step) → r ≡ file_on l from end head o → Stepped job index index from (first_of (file_line ∷ ks) j (line_of job from end) rest) (Ok r)
  file_good k ek e r er =
      let w = was_good (file_read (rows (path_at job index) head.files) l) (ap Ok (sym e) ∙ ek) in
      let t = file_taken l (rows (path_at job index) head.files) w.0 w.1 in
      let v : bytes_at job (from + 5) (length (drop 5 l)) ≡ w.0 = rw el (value_is job from end pre.line 5) ∙ (ap (drop 5) (sym el) ∙ sym t.0) in
      let n : length l ≡ end - from = ap length el ∙ line_length job from end pre.line in
      let s : Stepped job index index from (first_of (file_line ∷ ks) j (line_of job from end) rest) (Ok (file_on l from end head o)) = record {
        says = rw v (sym (kind_good file_line ks j (line_of job from end) rest (λ p. on (due_bytes p) j rest) (file_read (rows (path_at job index) head.files) l) file_is w.0 w.1));
        stands = (
          omega (arith, from_end job from end pre.line),
          record {
            out = outside_on job head from end pre.line pre.stands;
            room = omega (arith, t.1, rows_length (path_at job index) head.files);
            span = record { at_fits = omega (arith, from_end job from end pre.line, pre.line.inside, pre.line.small); len_fits = omega (arith, length-drop 5 l, pre.line.inside, pre.line.small) };
          },
        );
        long = refl;
        kept = refl;
      } in
      rw er s

  -- ---- module=NAME
  names_are : map (λ (m : Module). m.name) (rows (module_row job index) head.modules) ≡ rows (name_at job index) head.modules
  unfolding module_row name_at
  names_are = rows_map (module_row job index) (λ (m : Module). m.name) head.modules

  module_is : module_line j (line_of job from end) rest ≡ option_map (λ (r : Checked Bytes). and_then r (λ p. on (due_style p) j rest)) (module_read (rows (name_at job index) head.modules) l)
  unfolding module_line
  module_is = rw (names_are, el)

  pub module_other : (k : Bool) → Ok k ≡ verdict (module_read (rows (name_at job index) head.modules) l) → k ≡ false → (index' : List ℕ) (r : Result Step Refusal) → Stepped job index index' from (first_of ks j (line_of job from end) rest) r → Stepped job index index' from (first_of (module_line ∷ ks) j (line_of job from end) rest) r
  module_other k ek e index' r s = stepped_else job index index' from _ _ r (kind_other module_line ks j (line_of job from end) rest (λ p. on (due_style p) j rest) (module_read (rows (name_at job index) head.modules) l) module_is (was_other (module_read (rows (name_at job index) head.modules) l) (ap Ok (sym e) ∙ ek))) s

  pub module_none : (k : Bool) → Ok k ≡ verdict (module_read (rows (name_at job index) head.modules) l) → k ≡ false → ks ≡ [] → Stepped job index index from (first_of (module_line ∷ ks) j (line_of job from end) rest) (Err Malformed)
  module_none k ek e n = module_other k ek e index (Err Malformed) (refused_is job index from Malformed _ (rw n))

  pub module_refused : (x : Refusal) → Err (number_of x) ≡ verdict (module_read (rows (name_at job index) head.modules) l) → (r : Result Step Refusal) → IsErrAnd r (λ y. y ≡ x) → Stepped job index index from (first_of (module_line ∷ ks) j (line_of job from end) rest) r
  module_refused x ek r q =
      let p = err_from_is_err_and r q in
      rw (p.1, p.2) (refused_is job index from x _ (sym (kind_refused module_line ks j (line_of job from end) rest (λ p. on (due_style p) j rest) (module_read (rows (name_at job index) head.modules) l) module_is (number_of x) (was_refused (module_read (rows (name_at job index) head.modules) l) (number_of x) ek))))

  pub module_good : (k : Bool) → Ok k ≡ verdict (module_read (rows (name_at job index) head.modules) l) → k ≡ true → (r : Step) → r ≡ module_on l from end head o → Stepped job index index from (first_of (module_line ∷ ks) j (line_of job from end) rest) (Ok r)
  module_good k ek e r er =
      let w = was_good (module_read (rows (name_at job index) head.modules) l) (ap Ok (sym e) ∙ ek) in
      let t = module_taken l (rows (name_at job index) head.modules) w.0 w.1 in
      let v : bytes_at job (from + 7) (length (drop 7 l)) ≡ w.0 = rw el (value_is job from end pre.line 7) ∙ (ap (drop 7) (sym el) ∙ sym t.0) in
      let n : length l ≡ end - from = ap length el ∙ line_length job from end pre.line in
      let s : Stepped job index index from (first_of (module_line ∷ ks) j (line_of job from end) rest) (Ok (module_on l from end head o)) = record {
        says = rw v (sym (kind_good module_line ks j (line_of job from end) rest (λ p. on (due_style p) j rest) (module_read (rows (name_at job index) head.modules) l) module_is w.0 w.1));
        stands = (
          omega (arith, from_end job from end pre.line),
          record {
            out = outside_on job head from end pre.line pre.stands;
            room = omega (arith, t.1, rows_length (name_at job index) head.modules);
            span = record { at_fits = omega (arith, from_end job from end pre.line, pre.line.inside, pre.line.small); len_fits = omega (arith, length-drop 7 l, pre.line.inside, pre.line.small) };
          },
        );
        long = refl;
        kept = refl;
      } in
      rw er s
