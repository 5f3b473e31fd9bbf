-- A job, read: checks 2 to 7 of document 01, the first that fails answers. A refusal has its number and its line; 2, 3 and 7 have line 0.
-- Assumes nothing.
use Rattle.std.specs.Prelude.{ℕ, zero, suc, ◌+◌, Bool, true, false, cond, ◌&&◌, [], length, take, drop, leb, ltb}
use Rattle.text.specs.Ascii.{Bytes, byte}
use Rattle.text.specs.Classes.{is_ascii}
use Rattle.text.specs.Compare.{same}
use Rattle.text.specs.Scan.{all, any, up_to}
use Rattle.fields.specs.Limits.{most_bytes}
use Rattle.joblines.specs.Job.{File, Module, Job, no_job}
use Rattle.joblines.specs.Lines.{Due, due_top, Read, refuse, on, read_line}

pub data Parsed : Type 0 where
  accepted : Job → Parsed
  refused : ℕ → ℕ → Parsed

-- "`end=`, and no byte after it (a fault of the next line)"
abbrev pub is_nothing : Due → Bool
is_nothing Due.due_top = false
is_nothing Due.due_override = false
is_nothing Due.due_start = false
is_nothing Due.due_file = false
is_nothing (Due.due_bytes p) = false
is_nothing Due.due_more = false
is_nothing (Due.due_style n) = false
is_nothing Due.due_ports = false
is_nothing Due.due_decls = false
is_nothing Due.due_insts = false
is_nothing Due.due_nothing = true

-- "key=value lines ending in LF (byte 10)": the first line of what is left, without its LF, and what is behind it
abbrev pub line_size : Bytes → ℕ
line_size rest = up_to (byte "\n") rest

abbrev pub has_line : Bytes → Bool
has_line rest = ltb (line_size rest) (length rest)

abbrev pub first_line : Bytes → Bytes
first_line rest = take (line_size rest) rest

abbrev pub behind_line : Bytes → Bytes
behind_line rest = drop (line_size rest + 1) rest

-- the line read is number n + 1
abbrev pub carry_on : ℕ → Read → (Due → Job → Bytes → Parsed) → Parsed
carry_on n (refuse x) go = refused x (n + 1)
carry_on n (on d j rest) go = go d j rest

-- line by line, n lines having been read: "lines of a `file` body, and the LF after it, are not counted", "a missing line is a fault of the
-- line after the last". The first number bounds the lines: a line takes a byte at least
unfoldable pub lines : ℕ → ℕ → Due → Job → Bytes → Parsed
lines zero n due j rest = refused 4 (n + 1)
lines (suc k) n due j rest =
    cond (is_nothing due) (cond (same rest []) (accepted j) (refused 4 (n + 1)))
    (cond (has_line rest) (carry_on n (read_line due j (first_line rest) (behind_line rest)) (lines k (n + 1))) (refused 4 (n + 1)))

-- "Are `start` and `top` listed? No: 7."
abbrev pub listed : Parsed → Parsed
listed (refused x n) = refused x n
listed (accepted j) =
    cond (any (λ (f : File). same f.path j.start) j.files && any (λ (m : Module). same m.name j.top) j.modules)
    (accepted j) (refused 7 0)

-- "Is the job at most 65,536 bytes? No: 2. Is every byte below 128? No: 3."
unfoldable pub parse : Bytes → Parsed
parse t =
    cond (leb (length t) most_bytes) (cond (all is_ascii t) (listed (lines (length t + 1) 0 due_top no_job t)) (refused 3 0)) (refused 2 0)
