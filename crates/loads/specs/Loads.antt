-- A load: what stands before it reads its file, and what is back behind it. Assumes nothing.
use Rattle.std.specs.Prelude.{Option, Some, None, Result, Ok, Err}
use Rattle.store.specs.declared.stored.Stored.{Stored}
use Rattle.std.specs.Prelude.{ℕ, ◌-◌, ◌≤◌, ◌<◌, ◌≡◌, List, take, drop}
use Rattle.text.specs.Ascii.{Bytes}
use Rattle.jobindex.specs.Index.{path_at}
use Rattle.model.specs.Names.{load_upf}
use Rattle.read.specs.Reading.{refused, restored}
use Rattle.store.specs.Added.{scope_set, top_set}
use Rattle.store.specs.declared.state.Head.{Head}
use Rattle.store.specs.declared.state.State.{State}
use Rattle.scopes.specs.declared.go.Out.{Out}
use Rattle.scopes.specs.Stops.{tag_of}
use Rattle.scopes.specs.declared.go.Place.{Place}
use Rattle.scopes.specs.declared.go.Stop.{Stop}
use Rattle.scopes.specs.Moves.{Line, out_of}
use Rattle.held.specs.Held.{Held, Worded, model_at, counted_of}
use Rattle.loads.specs.declared.Load.{Load}
use Rattle.loads.specs.Steps.{line_at, step_from, load_at, files_in, Texts, file_reads}

-- the loader m had a design top, or not
abbrev pub restored_by : State → State → Option Stored → State
restored_by m s None = scope_set s m.head.scope
restored_by m s (Some t) = top_set (scope_set s m.head.scope) (Some t)

abbrev pub Restores : State → State → State → Type 0
Restores m s r = r ≡ restored_by m s m.head.top

-- of the heads alone: before the load h, behind it g
abbrev pub top_back : Option Stored → Option Stored → Option Stored
top_back None t = t
top_back (Some x) t = Some x

abbrev pub head_back : Head → Head → Head
head_back h g = record { scope = h.scope; top = top_back h.top g.top }

-- ---- what a load asks, of its place alone and of the state

pub record Asked (files area words : List ℕ) (count n k : ℕ) (p : Place) : Type 0 where
  pub line : Line files area words n p
  pub few : count ≤ 32
  pub file : k < count

pub record Loading (job files area nums words : List ℕ) (count n k left : ℕ) (s : State) : Type 0 where
  pub filed : Texts job files nums count
  pub held : Held files area nums 1 s
  pub worded : Worded files words n s
  pub named : 0 < n
  pub file : k < count
  pub counted : s.count.commands ≤ 1024

-- ---- what it answers

-- the state in the load's scope; of a load that is refused the state as it was
abbrev pub opened : State → Result Load Stop → Out
opened s (Ok b) = out_of s (Ok b.place)
opened s (Err x) = out_of s (Err x)

abbrev pub file_of : Result Load Stop → ℕ
file_of (Ok b) = b.file
file_of (Err x) = 0

-- a refusal: by whatever stood in the log
pub record Refuses (job files area₀ nums : List ℕ) (count : ℕ) (words : List ℕ) (n k left : ℕ) (s : State) (r : Out) (f : ℕ) : Type 0 where
  pub is : (text : Bytes) → step_from (load_at (files_in job nums count) left) (path_at job nums k) load_upf (line_at files area₀ words n s) (counted_of s) (model_at files area₀ nums s text) ≡ refused (tag_of r.stop) r.state.count.commands

-- the load goes on: with the state in its scope, and the file that it reads
pub record Opens (job files area₀ area nums : List ℕ) (count : ℕ) (words : List ℕ) (n k left : ℕ) (s : State) (r : Out) (f : ℕ) : Type 0 where
  pub deep : 0 < left
  pub file : f < count
  pub held : Held files area nums 0 r.state
  pub more : s.fill.end ≤ r.state.fill.end
  pub log : r.state.fill.log ≡ s.fill.log
  pub is : (text : Bytes) → step_from (load_at (files_in job nums count) left) (path_at job nums k) load_upf (line_at files area₀ words n s) (counted_of s) (model_at files area₀ nums s text)
      ≡ restored (model_at files area₀ nums s text) (file_reads job files area nums count f (left - 1) r.state text)

pub record Loaded (job files area₀ area nums : List ℕ) (count : ℕ) (words : List ℕ) (n k left : ℕ) (s : State) (r : Out) (f : ℕ) : Type 0 where
  pub kept : take s.fill.end area ≡ take s.fill.end area₀
  pub back : drop 24576 area ≡ drop 24576 area₀
  pub refuses : (tag_of r.stop ≡ 0 → ⊥) → Refuses job files area₀ nums count words n k left s r f
  pub opens : tag_of r.stop ≡ 0 → Opens job files area₀ area nums count words n k left s r f
