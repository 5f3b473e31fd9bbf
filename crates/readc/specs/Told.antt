-- What a caller in C or Rust is told of a reading. Assumes nothing.
use Rattle.std.specs.Prelude.{ℕ, ◌≡◌, cond, List, [], eqb, Result, Ok, Err, Option}
use Rattle.text.specs.Ascii.{Bytes}
use Rattle.out.specs.Emit.{◌▸◌, emit}
use Rattle.jobindex.specs.declared.Header.{Header}
use Rattle.job.specs.declared.Refused.{Refused}
use Rattle.job.specs.Reader.{JobRead}
use Rattle.store.specs.declared.state.State.{State}
use Rattle.scopes.specs.declared.go.Stop.{Stop}
use Rattle.scopes.specs.Stops.{tag_of}
use Rattle.reader.specs.Whole.{WasRead}
use Rattle.dump.specs.Tables.{state_text}

-- how many files a job has, and the row of its start file
abbrev pub files_of : Result Header Refused → ℕ
files_of (Err r) = 0
files_of (Ok head) = head.files

abbrev pub first_of : Result Header Refused → ℕ
first_of (Err r) = 0
first_of (Ok head) = head.startfile

pub record Indexes (job : Bytes) (nums₀ nums : List ℕ) (count first : ℕ) : Type 0 where
  pub answer : Result Header Refused
  pub read : JobRead job nums₀ nums answer
  pub count_is : count ≡ files_of answer
  pub first_is : first ≡ first_of answer

-- the state of a reading that ends, as numbers
unfoldable pub told_text : ℕ → State → Bytes
told_text tag s = cond (eqb tag 0) (state_text s) []

-- the answer of the reader, in numbers
pub record Told (job files₀ files area₀ area nums₀ nums log₀ log dump₀ dump : List ℕ) (count first tag command logged dumped : ℕ) : Type 0 where
  pub stop : Option Stop
  pub state : State
  pub tag_is : tag ≡ tag_of stop
  pub read : WasRead job files₀ files area₀ area nums₀ nums log₀ log count first (record { stop = stop; state = state })
  pub command_is : command ≡ state.count.commands
  pub logged_is : logged ≡ state.fill.log
  pub dump_is : dump ▸ dumped ≡ emit (dump₀ ▸ 0) (told_text tag state)
