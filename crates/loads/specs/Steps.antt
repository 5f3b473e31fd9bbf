-- One command from where its words have been read, and a file: what they come to. Assumes nothing.
use Rattle.std.specs.Prelude.{Option, Some, None}
use Rattle.std.specs.Prelude.{ℕ, zero, suc, ◌+◌, ◌≤◌, ◌<◌, ◌≡◌, Bool, cond, ◌&&◌, List, leb}
use Rattle.text.specs.Ascii.{Bytes}
use Rattle.text.specs.Scan.{all}
use Rattle.spans.specs.Span.{strings}
use Rattle.tcl.specs.Join.{join}
use Rattle.tcl.specs.Commands.{commands}
use Rattle.joblines.specs.Job.{File}
use Rattle.jobindex.specs.Index.{path_at, body_at, file_at, rows}
use Rattle.model.specs.Limits.{most_commands, most_entries, most_all_entries}
use Rattle.model.specs.Records.{Model}
use Rattle.model.specs.Names.{Named, command_named}
use Rattle.model.specs.Within.{Counted, lists_by, entries_of, total, records_fit, counts_fit}
use Rattle.read.specs.Reading.{Reading, done, refused, Line, line_of, acts_by, scopes_by, afterwards, read_commands, read_file}
use Rattle.store.specs.declared.state.State.{State}
use Rattle.joined.specs.Joined.{joined_at}
use Rattle.held.specs.Held.{mem_of, model_at, counted_of, Held, Worded}
use Rattle.held.specs.Laws.{with_entries}
use Rattle.scopes.specs.declared.go.Out.{Out}
use Rattle.scopes.specs.declared.go.Stop.TheVariants as stop

-- ---- a command whose words have been read: n counts it and its substitutions already

-- with the entries of the values that it reads as lists, and the bytes of its scope; m is what it leaves
abbrev pub counted_on : Named → Line → Counted → Model → Counted
counted_on c l n m =
    record {
      commands = n.commands;
      substituted = n.substituted;
      scopes = n.scopes + scopes_by c l m;
      entries = n.entries + total (entries_of (lists_by c l.name l.rest));
    }

abbrev pub step_from : (Bytes → Counted → Model → Reading) → Bytes → Named → Line → Counted → Model → Reading
step_from load path c l n m =
    cond (all (λ k. leb k most_entries) (entries_of (lists_by c l.name l.rest)) && (counts_fit (counted_on c l n (acts_by c m l)) && records_fit (acts_by c m l)))
    (afterwards load path c l m (counted_on c l n (acts_by c m l)) (acts_by c m l))
    (refused 10 n.commands)

-- ---- within the limits of commands and lists

abbrev pub lists_fit : ℕ → ℕ → List ℕ → Bool
lists_fit commands before ls = leb commands most_commands && (all (λ k. leb k most_entries) ls && leb (before + total ls) most_all_entries)

-- the state with its entries counted, or the refusal
abbrev pub counted_out : State → List ℕ → Out
counted_out s ls =
    cond (lists_fit s.count.commands s.count.entries ls) (record { stop = None; state = with_entries s (s.count.entries + total ls) }) (record { stop = Some stop.PastLimit; state = s })

-- ---- one that loads nothing, its entries counted

abbrev pub scopes_on : Named → Line → Counted → Model → Counted
scopes_on c l n m = record { commands = n.commands; substituted = n.substituted; scopes = n.scopes + scopes_by c l m; entries = n.entries }

abbrev pub acted : Named → Line → Counted → Model → Reading
acted c l n m =
    cond (counts_fit (scopes_on c l n (acts_by c m l)) && records_fit (acts_by c m l)) (done (scopes_on c l n (acts_by c m l)) (acts_by c m l)) (refused 10 n.commands)

-- ---- loads

-- what a load does where `left` loads may still be nested
abbrev pub load_at : List File → ℕ → Bytes → Counted → Model → Reading
load_at fs zero = λ p k r. refused 8 k.commands
load_at fs (suc left) = read_file fs left

-- ---- of the job and its index

abbrev pub files_in : Bytes → List ℕ → ℕ → List File
files_in job nums count = rows (file_at job nums) count

-- the words of a command
abbrev pub line_at : Bytes → Bytes → List ℕ → ℕ → State → Line
line_at files area words n s = line_of (strings (mem_of files area s) words 0 n)

-- the command with these words, of file k
unfoldable pub command_reads : Bytes → Bytes → Bytes → List ℕ → ℕ → List ℕ → ℕ → ℕ → ℕ → State → Bytes → Reading
command_reads job files area nums count words n k left s text =
    step_from (load_at (files_in job nums count) left) (path_at job nums k) (command_named (line_at files area words n s).name) (line_at files area words n s) (counted_of s) (model_at files area nums s text)

-- file k
unfoldable pub file_reads : Bytes → Bytes → Bytes → List ℕ → ℕ → ℕ → ℕ → State → Bytes → Reading
file_reads job files area nums count k left s text =
    read_commands (load_at (files_in job nums count) left) (path_at job nums k) (model_at files area nums s text).variables (commands (joined_at files nums k)) (counted_of s) (model_at files area nums s text)

-- ---- what is asked

-- the joined files of the job
pub record Texts (job files : Bytes) (nums : List ℕ) (count : ℕ) : Type 0 where
  pub few : count ≤ 32
  pub texts : (k : ℕ) → k < count → joined_at files nums k ≡ join (body_at job nums k)

pub record Doing (job files area nums words : List ℕ) (count n k left : ℕ) (s : State) : Type 0 where
  pub filed : Texts job files nums count
  pub held : Held files area nums 1 s
  pub worded : Worded files words n s
  pub named : 0 < n
  pub few : n ≤ 128
  pub file : k < count
  pub depth : left ≤ 16

pub record Opening (job files area nums : List ℕ) (count k left : ℕ) (s : State) : Type 0 where
  pub filed : Texts job files nums count
  pub held : Held files area nums 0 s
  pub file : k < count
  pub depth : left ≤ 16
