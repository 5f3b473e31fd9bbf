-- What is due says which step is asked, and the step says what the line comes to.
-- Assumes nothing.
use mathlib.Core.Path.{◌≡◌, refl}
use Prim.Native.Nat.{ℕ, ◌+◌, ◌-◌}
use mathlib.Core.List.{List, [], ◌∷◌}
use lib.ListN.{drop}
use Rattle.text.specs.Ascii.{Bytes}
use Rattle.joblines.specs.Lines.{first_of, read_line, top_line, override_line, start_line, file_line, bytes_line, module_line, style_line, port_line, decl_line, inst_line, conn_line, end_line}
use Rattle.jobindex.specs.declared.Header.{Header}
use Rattle.jobindex.specs.declared.Open.{Open}
use Rattle.jobindex.specs.Index.{bytes_at, job_of}
use Rattle.jobsteps.specs.declared.Due.{Due}
use Rattle.jobsteps.specs.declared.Due.TheVariants as due
use Rattle.jobsteps.specs.declared.Step.{Step}
use Rattle.std.specs.Prelude.{Result, Err}
use Rattle.joblines.specs.declared.Refusal.{Refusal}
use Rattle.joblines.specs.declared.Refusal.TheVariants.{Malformed}
use Rattle.jobsteps.specs.State.{due_of, job_in, job_now, line_of, Outside, BytesDue, StyleDue, PortsDue, DeclsDue, InstsDue, Stands, Alone, Asked, Stepped}

module _ (job index : List ℕ) (from end : ℕ) (d : Due) (head : Header) (o : Open) (pre : Asked job index from end (Stands job index d head o from)) where
  pub ask_top : d ≡ due.Top → Alone job from end (Outside job head from)
  ask_top e = record { line = pre.line; stands = rw e at pre.stands }

  pub ask_override : d ≡ due.Override → Alone job from end (Outside job head from)
  ask_override e = record { line = pre.line; stands = rw e at pre.stands }

  pub ask_start : d ≡ due.Start → Alone job from end (Outside job head from)
  ask_start e = record { line = pre.line; stands = rw e at pre.stands }

  pub ask_file : d ≡ due.File → Asked job index from end (Outside job head from)
  ask_file e = record { line = pre.line; stands = rw e at pre.stands; room = pre.room }

  pub ask_bytes : (a l : ℕ) → d ≡ due.Bytes a l → Asked job index from end (BytesDue job head a l from)
  ask_bytes a l e = record { line = pre.line; stands = rw e at pre.stands; room = pre.room }

  pub ask_more : d ≡ due.More → Asked job index from end (Outside job head from)
  ask_more e = record { line = pre.line; stands = rw e at pre.stands; room = pre.room }

  pub ask_style : (a l : ℕ) → d ≡ due.Style a l → Alone job from end (StyleDue job head a l from)
  ask_style a l e = record { line = pre.line; stands = rw e at pre.stands }

  pub ask_ports : d ≡ due.Ports → Asked job index from end (PortsDue job index head o from)
  ask_ports e = record { line = pre.line; stands = rw e at pre.stands; room = pre.room }

  pub ask_decls : d ≡ due.Decls → Asked job index from end (DeclsDue job index head o from)
  ask_decls e = record { line = pre.line; stands = rw e at pre.stands; room = pre.room }

  pub ask_insts : d ≡ due.Insts → Asked job index from end (InstsDue job index head o from)
  ask_insts e = record { line = pre.line; stands = rw e at pre.stands; room = pre.room }

module _ (job index index' : List ℕ) (from end : ℕ) (d : Due) (head : Header) (o : Open) (r : Result Step Refusal) where
  abbrev line : Bytes
  line = line_of job from end

  abbrev rest : Bytes
  rest = drop (end + 1) job

  abbrev DueStep : Type 0
  DueStep = Stepped job index index' from (read_line (due_of job d) (job_now job index d head o) line rest) r

  pub step_top : d ≡ due.Top → Stepped job index index' from (first_of (top_line ∷ []) (job_of job index head) line rest) r → DueStep
  unfolding read_line
  step_top e s = rw e s

  pub step_override : d ≡ due.Override → Stepped job index index' from (first_of (override_line ∷ []) (job_of job index head) line rest) r → DueStep
  unfolding read_line
  step_override e s = rw e s

  pub step_start : d ≡ due.Start → Stepped job index index' from (first_of (start_line ∷ []) (job_of job index head) line rest) r → DueStep
  unfolding read_line
  step_start e s = rw e s

  pub step_file : d ≡ due.File → Stepped job index index' from (first_of (file_line ∷ []) (job_of job index head) line rest) r → DueStep
  unfolding read_line
  step_file e s = rw e s

  pub step_bytes : (a l : ℕ) → d ≡ due.Bytes a l → Stepped job index index' from (first_of (bytes_line (bytes_at job a l) ∷ []) (job_of job index head) line rest) r → DueStep
  unfolding read_line
  step_bytes a l e s = rw e s

  pub step_more : d ≡ due.More → Stepped job index index' from (first_of (file_line ∷ module_line ∷ []) (job_of job index head) line rest) r → DueStep
  unfolding read_line
  step_more e s = rw e s

  pub step_style : (a l : ℕ) → d ≡ due.Style a l → Stepped job index index' from (first_of (style_line (bytes_at job a l) ∷ []) (job_of job index head) line rest) r → DueStep
  unfolding read_line
  step_style a l e s = rw e s

  pub step_ports : d ≡ due.Ports → Stepped job index index' from (first_of (port_line ∷ decl_line ∷ inst_line ∷ module_line ∷ end_line ∷ []) (job_in job index head o) line rest) r → DueStep
  unfolding read_line
  step_ports e s = rw e s

  pub step_decls : d ≡ due.Decls → Stepped job index index' from (first_of (decl_line ∷ inst_line ∷ module_line ∷ end_line ∷ []) (job_in job index head o) line rest) r → DueStep
  unfolding read_line
  step_decls e s = rw e s

  pub step_insts : d ≡ due.Insts → Stepped job index index' from (first_of (conn_line ∷ inst_line ∷ module_line ∷ end_line ∷ []) (job_in job index head o) line rest) r → DueStep
  unfolding read_line
  step_insts e s = rw e s

pub step_nothing : (job index : List ℕ) (from end : ℕ) (d : Due) (head : Header) (o : Open) → d ≡ due.Nothing
    → Stepped job index index from (read_line (due_of job d) (job_now job index d head o) (line_of job from end) (drop (end + 1) job)) (Err Malformed)
unfolding read_line
step_nothing job index from end d head o e = record { says = rw e; stands = tt; long = refl; kept = refl }
