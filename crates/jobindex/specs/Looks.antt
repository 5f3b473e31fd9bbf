-- What lines come to beside the index: an instance line with its name, a bytes line with its number.
-- Assumes nothing.
use Rattle.std.specs.Prelude.{ℕ}
use Rattle.std.specs.Prelude.{◌+◌, ◌≤◌, ◌≡◌, cond, List, length, take, drop, Option, None, Some, Result, Ok, Err}
use Rattle.text.specs.Ascii.{Bytes, ascii}
use Rattle.text.specs.Compare.{starts_with}
use Rattle.text.specs.Numbers.{number_of}
use Rattle.joblines.specs.Job.{Inst}
use Rattle.joblines.specs.Lines.{Checked, bad, good, inst_read}
use Rattle.joblines.specs.Forms.{number_of as refusal_number}
use Rattle.joblines.specs.declared.Refusal.{Refusal}
use Rattle.jobindex.specs.declared.Span.{Span}

-- the name of the instance that a line comes to
abbrev pub name_of : Option (Checked Inst) → Option (Checked Bytes)
name_of None = None
name_of (Some (bad n)) = Some (bad n)
name_of (Some (good i)) = Some (good i.name)

abbrev pub inst_said : Bytes → Result (Option Span) Refusal → Option (Checked Bytes)
inst_said line (Err x) = Some (bad (refusal_number x))
inst_said line (Ok None) = None
inst_said line (Ok (Some s)) = Some (good (take s.len (drop s.at (drop 5 line))))

-- the name lies in the line
abbrev pub InstWithin : Bytes → Result (Option Span) Refusal → Type 0
InstWithin line (Err x) = Unit {0}
InstWithin line (Ok None) = Unit {0}
InstWithin line (Ok (Some s)) = s.at + s.len ≤ length (drop 5 line)

pub record InstSeen (line : Bytes) (names : List Bytes) (r : Result (Option Span) Refusal) : Type 0 where
  pub says : inst_said line r ≡ name_of (inst_read names line)
  pub within : InstWithin line r

-- the number of a line `bytes=N`, where it is at most 65,536
unfoldable pub bytes_of : Bytes → Option ℕ
bytes_of line = cond (starts_with (ascii "bytes=") line) (number_of 65536 (drop 6 line)) None
