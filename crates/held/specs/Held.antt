-- The reader's invariant: the state is in order, what was counted is within the limits, and the memory is used as far as the state says.
-- What it stands for. Assumes nothing.
use Rattle.std.specs.Prelude.{ℕ, ◌+◌, ◌*◌, ◌≤◌, ◌<◌, ◌^◌, ◌≡◌, cond, List, [], ◌++◌, eqb, length, take, drop}
use Rattle.text.specs.Ascii.{Bytes}
use Rattle.out.specs.Emit.{◌▸◌, emit}
use Rattle.spans.specs.Span.{pairs}
use Rattle.spans.specs.Reach.{last_of, reach}
use Rattle.model.specs.Records.{Model}
use Rattle.model.specs.Within.{Counted}
use Rattle.read.specs.Reading.{Reading, done, refused}
use Rattle.store.specs.View.{model_of}
use Rattle.store.specs.Order.{Shaped, Bounded}
use Rattle.store.specs.Rows.{store_of}
use Rattle.store.specs.declared.state.State.{State}
use Rattle.made.specs.Made.{reach_of}
use Rattle.scopes.specs.declared.go.Out.{Out}
use Rattle.scopes.specs.Stops.{tag_of}

-- ---- what the state stands for

-- the files, and the area as far as it is used
abbrev pub mem_of : Bytes → Bytes → State → Bytes
mem_of files area s = files ++ take s.fill.end area

-- the records; the log is what has been written to its buffer
abbrev pub model_at : Bytes → Bytes → List ℕ → State → Bytes → Model
model_at files area nums s log = model_of (mem_of files area s) (store_of nums s) s log

abbrev pub counted_of : State → Counted
counted_of s =
    record { commands = s.count.commands; substituted = s.count.substituted; scopes = s.count.scopes; entries = s.count.entries }

-- the log of a reading; none of a refusal
abbrev pub log_of : Reading → Bytes
log_of (done n m) = m.log
log_of (refused x k) = []

-- what an answer stands for: the records and what was counted, or the refusal with the command that is being carried out
abbrev pub reading_of : Bytes → Bytes → List ℕ → Bytes → Out → Reading
reading_of files area nums log r =
    cond (eqb (tag_of r.stop) 0) (done (counted_of r.state) (model_at files area nums r.state log)) (refused (tag_of r.stop) r.state.count.commands)

-- the log's buffer was log₀, and text has been written to it
abbrev pub Logged : Bytes → Bytes → ℕ → Bytes → Type 0
Logged log₀ log at text = log ▸ at ≡ emit (log₀ ▸ 0) text

-- ---- the invariant

-- the lent memory is large enough, and no larger than can be counted
pub record Lends (files area nums : List ℕ) : Type 0 where
  pub files_short : length files ≤ 65536
  pub area_long : 24576 ≤ length area
  pub small : length files + length area < 2 ^ 32
  pub nums_long : 16384 ≤ length nums

-- k is 1 while a command is carried out, which may still get a row, else 0
pub record Held (files area nums : List ℕ) (k : ℕ) (s : State) : Type 0 where
  pub lends : Lends files area nums
  pub shaped : Shaped (store_of nums s) s
  pub bounded : Bounded (reach_of (length files)) (length files + s.fill.end) (store_of nums s) s
  pub commands : s.count.commands ≤ 1024 + k
  pub substituted : s.count.substituted ≤ 16384
  pub scopes : s.count.scopes ≤ 8192
  pub entries : s.count.entries ≤ 1024
  pub end : s.fill.end ≤ s.count.substituted + s.count.scopes
  pub rows : s.fill.rows + k ≤ s.count.commands
  pub words : s.fill.words ≤ 63 * (s.switches.n + s.portstates.n)

-- the words of a command reach no further than the memory that is used
abbrev pub Worded : Bytes → List ℕ → ℕ → State → Type 0
Worded files words n s = last_of (reach (length files)) (pairs words 0 n) ≤ length files + s.fill.end

-- ---- what is lent: the area is written from the end of what was used on, up to 24,576, and of the numbers the rows and words alone
pub record Lent (o : ℕ) (area₀ area nums₀ nums : List ℕ) : Type 0 where
  pub kept : take o area ≡ take o area₀
  pub back : drop 24576 area ≡ drop 24576 area₀
  pub low : take 1472 nums ≡ take 1472 nums₀
  pub high : drop 14656 nums ≡ drop 14656 nums₀

-- an answer stands for the reading d, and what d has in its log was written to the buffer, which was log₀ at the start
pub record Comes (files area nums log₀ log : List ℕ) (r : Out) (d : Reading) : Type 0 where
  pub result : reading_of files area nums (log_of d) r ≡ d
  pub logged : tag_of r.stop ≡ 0 → Logged log₀ log r.state.fill.log (log_of d)

-- what is carried out from the state s on, when the log's buffer was log₁: by what stood in the log it comes to the reading D
pub record Ran (files area₀ area nums₀ nums log₁ log : List ℕ) (s : State) (r : Out) (D : Bytes → Reading) : Type 0 where
  pub held : tag_of r.stop ≡ 0 → Held files area nums 0 r.state
  pub more : tag_of r.stop ≡ 0 → s.fill.end ≤ r.state.fill.end
  pub lent : Lent s.fill.end area₀ area nums₀ nums
  pub reads : (log₀ text : Bytes) → Logged log₀ log₁ s.fill.log text → Comes files area nums log₀ log r (D text)
