-- Steps at `bytes=N`: the body behind it, and the file's row. l is the line that was lent, n the number that was read of it.
-- Assumes nothing.
use Rattle.std.specs.Prelude.{Option, Some, None, Err}
use mathlib.Core.Path.{◌≡◌, refl, ◌∙◌, sym}
use Prim.Native.Nat.{ℕ, ◌+◌, ◌-◌, ◌<◌, ◌≤◌}
use native.Mathlib.Omega.{arith}
use mathlib.Core.Bool.{Bool, true, false, cond, ◌&&◌}
use mathlib.Core.List.{List, [], ◌∷◌, ◌++◌}
use lib.ListN.{length, take, drop, get_or, length-drop}
use lib.Dec.{leb}
use lib.Seq.{drop-drop, get_or-drop}
use borrow.Author.Rules.{rules}
use borrow.Author.Tests.{lt-ltb, le-ltb, eq-eqb, ne_eqb, leb-true, leb-false}
use Rattle.text.specs.Ascii.{Bytes, ascii, byte}
use Rattle.text.specs.Compare.{starts_with}
use Rattle.text.specs.Numbers.{is_decimal, value_from, number_of}
use Rattle.joblines.specs.Job.{Job}
use Rattle.joblines.specs.Lines.{Read, refuse, on, due_more, or_else, when, checks, is_body, first_of, bytes_line, with_files}
use Rattle.jobindex.specs.declared.Header.{Header}
use Rattle.jobindex.specs.declared.Open.{Open}
use Rattle.jobindex.specs.Index.{bytes_at, job_of}
use Rattle.jobindex.specs.Stores.{with_file}
use Rattle.jobindex.specs.Looks.{bytes_of}
use Rattle.jobindex.specs.Rows.{files_put, file_modules, file_long, file_kept}
use Rattle.jobsteps.specs.declared.Due.TheVariants as due
use Rattle.joblines.specs.declared.Refusal.TheVariants.{Malformed}
use Rattle.jobsteps.specs.State.{line_of, BytesDue, Asked, Stepped}
use Rattle.jobsteps.proofs.Cutting.{from_end}
use Rattle.jobsteps.proofs.Heads.{on_to, refused_is}

-- ---- a number within a bound, or none
number_of_lem : (m : ℕ) (w : Bytes) (n : ℕ) → Some n ≡ number_of m w → (is_decimal w ≡ true) × ((value_from 0 w ≡ n) × (n ≤ m))
unfolding number_of
number_of_lem m w n h = go (is_decimal w) (leb (value_from 0 w) m) refl refl h
  where
    go : (a b : Bool) → is_decimal w ≡ a → leb (value_from 0 w) m ≡ b → Some n ≡ cond (a && b) (Some (value_from 0 w)) None → (is_decimal w ≡ true) × ((value_from 0 w ≡ n) × (n ≤ m))
    go true true ea eb g = let z : n ≡ value_from 0 w = cc in (ea, (sym z, omega (arith, leb-true (value_from 0 w) m eb)))
    go true false ea eb g = absurd (let z : ◌≡◌ {A = ℕ} 0 1 = cc in omega arith)
    go false b ea eb g = absurd (let z : ◌≡◌ {A = ℕ} 0 1 = cc in omega arith)

number_bad : (m : ℕ) (w : Bytes) → None ≡ number_of m w → is_decimal w ≡ true → m < value_from 0 w
unfolding number_of
number_bad m w h d = go (leb (value_from 0 w) m) refl (rw d at h)
  where
    go : (b : Bool) → leb (value_from 0 w) m ≡ b → None ≡ cond b (Some (value_from 0 w)) None → m < value_from 0 w
    go true e g = absurd (let z : ◌≡◌ {A = ℕ} 0 1 = cc in omega arith)
    go false e g = leb-false (value_from 0 w) m e

module _ (job index : List ℕ) (from end at len : ℕ) (head : Header) (o : Open) (l : Bytes) (el : l ≡ take (end - from) (drop from job)) (pre : Asked job index from end (BytesDue job head at len from)) (n : Option ℕ) (en : n ≡ bytes_of l) where
  abbrev j : Job
  j = job_of job index head

  abbrev rest : Bytes
  rest = drop (end + 1) job

  abbrev value : Bytes
  value = drop 6 l

  -- the line, by its key and by whether its number has a body
  abbrev taken : Bool → Bool → Read
  taken a b =
      or_else (when a (checks (when b (value_from 0 value)) true (λ _. true)
      (λ n. on due_more (with_files j (j.files ++ (record { path = bytes_at job at len; body = take n rest } ∷ []))) (drop (n + 1) rest)))) (refuse 4)

  bytes_line_lem : first_of (bytes_line (bytes_at job at len) ∷ []) j (line_of job from end) rest ≡ taken (starts_with (ascii "bytes=") l) (is_decimal value && is_body (value_from 0 value) rest)
  unfolding bytes_line
  bytes_line_lem = rw el

  no_body : (a b : Bool) → (a ≡ true → b ≡ false) → taken a b ≡ refuse 4
  no_body false b h = refl
  no_body true b h = rw (h refl)

  rest_length : length rest ≡ length job - (end + 1)
  rest_length = length-drop (end + 1) job

  pub bytes_bad : n ≡ None → Stepped job index index from (first_of (bytes_line (bytes_at job at len) ∷ []) j (line_of job from end) rest) (Err Malformed)
  unfolding bytes_of
  bytes_bad e = refused_is job index from Malformed _ (sym (bytes_line_lem ∙ no_body (starts_with (ascii "bytes=") l) (is_decimal value && is_body (value_from 0 value) rest) (λ (k : starts_with (ascii "bytes=") l ≡ true). go (is_decimal value) refl (rw k at (sym e ∙ en)))))
    where
      go : (d : Bool) → is_decimal value ≡ d → None ≡ number_of 65536 value → (d && is_body (value_from 0 value) rest) ≡ false
      go false ed g = refl
      go true ed g = rw (le-ltb (value_from 0 value) (length rest) (omega (arith, number_bad 65536 value g ed, rest_length, pre.line.small)))

  -- the number n, read of the line
  module _ (size : ℕ) (e : n ≡ Some size) where
    read_key : starts_with (ascii "bytes=") l ≡ true
    unfolding bytes_of
    read_key = go (starts_with (ascii "bytes=") l) refl (sym e ∙ en)
      where
        go : (a : Bool) → starts_with (ascii "bytes=") l ≡ a → Some size ≡ cond a (number_of 65536 value) None → starts_with (ascii "bytes=") l ≡ true
        go true ea g = ea
        go false ea g = absurd (let z : ◌≡◌ {A = ℕ} 0 1 = cc in omega arith)

    read_number : (is_decimal value ≡ true) × ((value_from 0 value ≡ size) × (size ≤ 65536))
    unfolding bytes_of
    read_number = number_of_lem 65536 value size (rw read_key at (sym e ∙ en))

    body_line : (b : Bool) → is_body size rest ≡ b → first_of (bytes_line (bytes_at job at len) ∷ []) j (line_of job from end) rest ≡ taken true b
    body_line b eb = bytes_line_lem ∙ rw (read_key, read_number.0, read_number.1.0, eb)

    pub body_short : length job - (end + 1) ≤ size → Stepped job index index from (first_of (bytes_line (bytes_at job at len) ∷ []) j (line_of job from end) rest) (Err Malformed)
    body_short h = refused_is job index from Malformed _ (sym (body_line false (rw (le-ltb size (length rest) (omega (arith, rest_length))))))

    module _ (h : size < length job - (end + 1)) where
      pub body_no_lf : (get_or job (end + 1 + size) 0 ≡ byte "\n" → ⊥) → Stepped job index index from (first_of (bytes_line (bytes_at job at len) ∷ []) j (line_of job from end) rest) (Err Malformed)
      body_no_lf g = refused_is job index from Malformed _ (sym (body_line false (rw (lt-ltb size (length rest) (omega (arith, rest_length)), get_or-drop (end + 1) job size 0, ne_eqb (get_or job (end + 1 + size) 0) (byte "\n") g))))

      pub body_on : get_or job (end + 1 + size) 0 ≡ byte "\n" → (index' : List ℕ) → index' ≡ with_file index head.files at len (end + 1) size
          → Stepped job index index' from (first_of (bytes_line (bytes_at job at len) ∷ []) j (line_of job from end) rest)
          (on_to (end + 1 + size + 1) due.More (record { top = head.top; over = head.over; start = head.start; files = head.files + 1; modules = head.modules; startfile = head.startfile; topmodule = head.topmodule }) o)
      body_on g index' ei =
          let z : end + 1 + (size + 1) ≡ end + 1 + size + 1 = omega arith in
          let few : head.files < 32 = pre.stands.room in
          let v : value_from 0 value ≡ size = read_number.1.0 in
          let b = body_line true (rw (lt-ltb size (length rest) (omega (arith, rest_length)), get_or-drop (end + 1) job size 0, eq-eqb (get_or job (end + 1 + size) 0) (byte "\n") g)) in
          record {
            says = sym (b ∙ rw (v, ei, files_put job index head.files at len (end + 1) size few pre.room, file_modules job index head.files at len (end + 1) size few pre.room head.modules, drop-drop (size + 1) (end + 1) job, z));
            stands = (omega (arith, from_end job from end pre.line), record { here = omega arith; files = omega arith; modules = pre.stands.out.modules });
            long = rw ei (file_long job index head.files at len (end + 1) size few pre.room);
            kept = rw ei (file_kept job index head.files at len (end + 1) size few pre.room);
          }

pub ruleset bodies = (rules, bytes_bad, body_short, body_no_lf, body_on)
