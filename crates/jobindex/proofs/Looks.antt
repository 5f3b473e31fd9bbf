-- What lines come to beside the index, from the tests that the code makes: t is whether the line has the key, v its value.
-- Assumes nothing.
use Rattle.std.specs.Prelude.{Option, None, Some, Ok, Err, is_some}
use mathlib.Core.Path.{◌≡◌, ap, ◌∙◌, sym}
use Prim.Native.Nat.{ℕ, ◌<◌, ◌≤◌}
use mathlib.Core.Bool.{Bool, true, false, not}
use lib.ListN.{take, drop}
use lib.Dec.{ltb}
use borrow.Author.Rules.{rules}
use borrow.Author.Tests.{not-true, not-false, lt-ltb, le-ltb}
use Rattle.text.specs.Ascii.{Bytes, ascii}
use Rattle.text.specs.Compare.{same, starts_with}
use Rattle.text.specs.Scan.{any}
use Rattle.text.specs.Numbers.{number_of}
use Rattle.fields.specs.Fields.{is_name, is_path}
use Rattle.joblines.specs.Lines.{check, fields, file_read, module_read, inst_of, inst_read}
use Rattle.joblines.specs.Forms.{inst_meant, InstIn, verdict}
use Rattle.joblines.specs.declared.Refusal.TheVariants.{Malformed, OverLimit, NotNew}
use Rattle.joblines.specs.declared.form.InstForm.{InstForm}
use Rattle.jobindex.specs.Index.{rows, row_of}
use Rattle.jobindex.specs.Looks.{name_of, InstSeen, bytes_of}
use Rattle.jobindex.specs.Rows.{rows_length, row_any}

-- ---- file=PATH
module _ (f : ℕ → Bytes) (count : ℕ) (line : Bytes) (t : Bool) (et : t ≡ starts_with (ascii "file=") line) where
  pub file_other : not t ≡ true → Ok false ≡ verdict (file_read (rows f count) line)
  unfolding file_read
  file_other h = rw (← et, not-true t h)

  module _ (h : not t ≡ false) (v : Bytes) (ev : v ≡ drop 5 line) (p : Bool) (ep : p ≡ is_path v) where
    pub file_bad : not p ≡ true → Err 4 ≡ verdict (file_read (rows f count) line)
    unfolding file_read
    file_bad g = rw (← et, not-false t h, ← ev, ← ep, not-true p g)

    module _ (g : not p ≡ false) where
      pub file_many : 32 ≤ count → Err 5 ≡ verdict (file_read (rows f count) line)
      unfolding file_read
      file_many m = rw (← et, not-false t h, ← ev, ← ep, not-false p g, rows_length f count, le-ltb count 32 m)

      module _ (m : count < 32) (r : Option ℕ) (er : r ≡ row_of f v count) (b : Bool) (eb : b ≡ is_some r) where
        pub file_old : b ≡ true → Err 6 ≡ verdict (file_read (rows f count) line)
        unfolding file_read
        file_old n = rw (← et, not-false t h, ← ev, ← ep, not-false p g, rows_length f count, lt-ltb count 32 m, row_any f v count, ← er, ← eb, n)

        pub file_new : b ≡ false → Ok true ≡ verdict (file_read (rows f count) line)
        unfolding file_read
        file_new n = rw (← et, not-false t h, ← ev, ← ep, not-false p g, rows_length f count, lt-ltb count 32 m, row_any f v count, ← er, ← eb, n)

pub ruleset file_lines = (rules, file_other, file_bad, file_many, file_old, file_new)

-- ---- module=NAME
module _ (f : ℕ → Bytes) (count : ℕ) (line : Bytes) (t : Bool) (et : t ≡ starts_with (ascii "module=") line) where
  pub module_other : not t ≡ true → Ok false ≡ verdict (module_read (rows f count) line)
  unfolding module_read
  module_other h = rw (← et, not-true t h)

  module _ (h : not t ≡ false) (v : Bytes) (ev : v ≡ drop 7 line) (p : Bool) (ep : p ≡ is_name v) where
    pub module_bad : not p ≡ true → Err 4 ≡ verdict (module_read (rows f count) line)
    unfolding module_read
    module_bad g = rw (← et, not-false t h, ← ev, ← ep, not-true p g)

    module _ (g : not p ≡ false) where
      pub module_many : 128 ≤ count → Err 5 ≡ verdict (module_read (rows f count) line)
      unfolding module_read
      module_many m = rw (← et, not-false t h, ← ev, ← ep, not-false p g, rows_length f count, le-ltb count 128 m)

      module _ (m : count < 128) (r : Option ℕ) (er : r ≡ row_of f v count) (b : Bool) (eb : b ≡ is_some r) where
        pub module_old : b ≡ true → Err 6 ≡ verdict (module_read (rows f count) line)
        unfolding module_read
        module_old n = rw (← et, not-false t h, ← ev, ← ep, not-false p g, rows_length f count, lt-ltb count 128 m, row_any f v count, ← er, ← eb, n)

        pub module_new : b ≡ false → Ok true ≡ verdict (module_read (rows f count) line)
        unfolding module_read
        module_new n = rw (← et, not-false t h, ← ev, ← ep, not-false p g, rows_length f count, lt-ltb count 128 m, row_any f v count, ← er, ← eb, n)

pub ruleset module_lines = (rules, module_other, module_bad, module_many, module_old, module_new)

-- ---- inst=D NAME MODULE
module _ (f : ℕ → Bytes) (count : ℕ) (line : Bytes) (t : Bool) (et : t ≡ starts_with (ascii "inst=") line) where
  pub inst_other : not t ≡ true → InstSeen line (rows f count) (Ok None)
  unfolding inst_read
  inst_other h = record { says = rw (← et, not-true t h); within = tt }

  module _ (h : not t ≡ false) (v : Bytes) (ev : v ≡ drop 5 line) (m : Option InstForm) (em : (inst_meant v m ≡ inst_of (fields v)) × InstIn v m) where
    inst_is_lem : inst_read (rows f count) line ≡ Some (check (inst_meant v m) (ltb count 64) (λ i. not (any (λ n. same n i.name) (rows f count))))
    unfolding inst_read
    inst_is_lem = rw (← et, not-false t h, ← ev, em.0, rows_length f count)

    pub inst_bad : m ≡ None → InstSeen line (rows f count) (Err Malformed)
    inst_bad e = record { says = sym (ap name_of inst_is_lem ∙ rw e); within = tt }

    module _ (x : InstForm) (e : m ≡ Some x) where
      pub inst_many : 64 ≤ count → InstSeen line (rows f count) (Err OverLimit)
      inst_many g = record { says = sym (ap name_of inst_is_lem ∙ rw (e, le-ltb count 64 g)); within = tt }

      module _ (g : count < 64) (p : Bytes) (ep : p ≡ take x.len (drop x.name v)) (r : Option ℕ) (er : r ≡ row_of f p count) (b : Bool) (eb : b ≡ is_some r) where
        pub inst_old : b ≡ true → InstSeen line (rows f count) (Err NotNew)
        inst_old q = record { says = sym (ap name_of inst_is_lem ∙ rw (e, lt-ltb count 64 g, ← ep, row_any f p count, ← er, ← eb, q)); within = tt }

        pub inst_new : b ≡ false → InstSeen line (rows f count) (Ok (Some (record { at = x.name; len = x.len })))
        inst_new q =
            record {
              says = sym (ap name_of inst_is_lem ∙ rw (e, lt-ltb count 64 g, ← ep, row_any f p count, ← er, ← eb, q, ep, ev));
              within = rw (← ev) (rw e at em.1);
            }

pub ruleset inst_lines = (rules, inst_other, inst_bad, inst_many, inst_old, inst_new)

-- ---- bytes=N
module _ (line : Bytes) (t : Bool) (et : t ≡ starts_with (ascii "bytes=") line) where
  pub bytes_other : not t ≡ true → None ≡ bytes_of line
  unfolding bytes_of
  bytes_other h = rw (← et, not-true t h)

  pub bytes_is : not t ≡ false → (v : Bytes) → v ≡ drop 6 line → (r : Option ℕ) → r ≡ number_of 65536 v → r ≡ bytes_of line
  unfolding bytes_of
  bytes_is h v ev r er = rw (← et, not-false t h, ← ev) er

pub ruleset bytes_lines = (rules, bytes_other, bytes_is)
