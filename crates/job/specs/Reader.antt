-- What the reader promises of the whole job.
-- Assumes nothing.
use Rattle.std.specs.Prelude.{ℕ, ◌+◌, ◌≤◌, ◌≡◌, Bool, true, List, length, drop, Result, Ok, Err}
use Rattle.text.specs.Ascii.{Bytes}
use Rattle.text.specs.Classes.{is_ascii}
use Rattle.text.specs.Scan.{all}
use Rattle.joblines.specs.Job.{no_job}
use Rattle.joblines.specs.Lines.{due_top}
use Rattle.joblines.specs.Parse.{Parsed, accepted, refused, lines, listed, parse}
use Rattle.jobindex.specs.declared.Header.{Header}
use Rattle.joblines.specs.Forms.{number_of}
use Rattle.joblines.specs.declared.Refusal.TheVariants.{Malformed}
use Rattle.job.specs.declared.Refused.{Refused}
use Rattle.jobindex.specs.Index.{index_size, job_of, Indexed}

-- where r says so, the n bytes of s from i on are all below 128
pub record Low (s : Bytes) (i n : ℕ) (r : Bool) : Type 0 where
  pub passed : r ≡ true → all is_ascii (drop i s) ≡ all is_ascii (drop (i + n) s)

-- a line that is not well formed, or missing
abbrev pub refused_at : ℕ → Refused
refused_at n = record { refusal = Malformed; line = n }

-- the reader's answer
abbrev pub read_of : Bytes → List ℕ → Result Header Refused → Parsed
read_of job index (Err r) = refused (number_of r.refusal) r.line
read_of job index (Ok head) = accepted (job_of job index head)

-- the rows of the start file and of the top module, of a job that was taken
abbrev pub Found : Bytes → List ℕ → Result Header Refused → Type 0
Found job index (Err r) = Unit {0}
Found job index (Ok head) = Indexed job index head (job_of job index head)

-- how far the line of a refusal goes, and the counts of a job that was taken
abbrev pub Bounded : Result Header Refused → Type 0
Bounded (Err r) = r.line ≤ 65537
Bounded (Ok head) = (head.files ≤ 32) × (head.modules ≤ 128)

-- line by line
pub record LinesRead (job : Bytes) (index₀ index : List ℕ) (r : Result Header Refused) : Type 0 where
  pub says : read_of job index r ≡ lines (length job + 1) 0 due_top no_job job
  pub counts : Bounded r
  pub long : length index ≡ length index₀
  pub kept : drop index_size index ≡ drop index_size index₀

-- "Are `start` and `top` listed? No: 7."
pub record Listed (job : Bytes) (index : List ℕ) (head : Header) (r : Result Header Refused) : Type 0 where
  pub says : read_of job index r ≡ listed (accepted (job_of job index head))
  pub found : Found job index r
  pub counts : Bounded r

-- THE READER: its answer, seen through the index, is `parse` of the job, for every byte string; behind the index nothing is changed
pub record JobRead (job : Bytes) (index₀ index : List ℕ) (r : Result Header Refused) : Type 0 where
  pub says : read_of job index r ≡ parse job
  pub found : Found job index r
  pub counts : Bounded r
  pub long : length index ≡ length index₀
  pub kept : drop index_size index ≡ drop index_size index₀
