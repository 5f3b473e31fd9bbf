-- What a scope that was found stands for: a refusal; or its path, which is the override or what was written to the lent way, and its module.
-- Assumes nothing.
use Rattle.std.specs.Prelude.{Option, Some, None, Result, Ok, Err}
use Rattle.store.specs.declared.stored.Stored.{Stored}
use Rattle.std.specs.Prelude.{ℕ, ◌≤◌, ◌<◌, ◌≡◌, true, cond, List, length, take, drop}
use Rattle.text.specs.Ascii.{Bytes}
use Rattle.spans.specs.Reach.{Held}
use Rattle.joblines.specs.Parse.{parse, accepted}
use Rattle.jobindex.specs.Index.{module_row, job_of, Indexed}
use Rattle.jobindex.specs.declared.Header.{Header}
use Rattle.lines.specs.Cursors.{spanned}
use Rattle.store.specs.Strings.{span_of}
use Rattle.texts.specs.Scope.{Scope, at, no_scope}
use Rattle.scope.specs.Parts.{parts}
use Rattle.findscope.specs.declared.NoScope.{NoScope}
use Rattle.findscope.specs.declared.ScopeAt.{ScopeAt}

-- the text that the parts of the path stand in: the first bytes of the way, or the override
abbrev pub path_text : Bytes → Header → Bytes → ScopeAt → Bytes
path_text job head way r = cond r.way (take r.len way) (spanned job head.over)

-- the numbers of the refusals: checks 7 and 8
abbrev pub number_of : NoScope → ℕ
number_of NoScope.NoInstance = 11
number_of NoScope.NoModule = 12
number_of NoScope.TooMany = 13

-- the scope: the parts of its path from a place on, and the module of its row; or a refusal by its number
abbrev pub scope_is : Bytes → List ℕ → Header → Bytes → Result ScopeAt NoScope → Scope
scope_is job index head way (Ok r) = at (parts (path_text job head way r) r.from) (module_row job index r.row)
scope_is job index head way (Err e) = no_scope (number_of e)

-- the module is a listed one
abbrev pub Listed : Header → Result ScopeAt NoScope → Type 0
Listed head (Ok r) = r.row < head.modules
Listed head (Err _) = Unit {0}

-- how many bytes of the way the answer names
abbrev pub named : Result ScopeAt NoScope → ℕ
named (Ok r) = r.len
named (Err _) = 0

-- r tells the scope s. The way was lent as way₀; behind what the answer names it is as it was
pub record Tells (job : Bytes) (index : List ℕ) (head : Header) (way₀ way : Bytes) (s : Scope) (r : Result ScopeAt NoScope) : Type 0 where
  pub says : scope_is job index head way r ≡ s
  pub within : Listed head r
  pub long : length way ≡ length way₀
  pub kept : drop (named r) way ≡ drop (named r) way₀

-- the way is left as it was, whatever it is
abbrev pub Told : Bytes → List ℕ → Header → Scope → Result ScopeAt NoScope → Type 0
Told job index head s r = (way : Bytes) → Tells job index head way way s r

-- ---- what is asked

-- the job is an accepted one, and the index is its index
pub record Taken (job : Bytes) (index : List ℕ) (head : Header) : Type 0 where
  pub is_accepted : parse job ≡ accepted (job_of job index head)
  pub indexed : Indexed job index head (job_of job index head)
  pub few : head.modules ≤ 128

-- the design top lies whole in the files or in the area
abbrev pub Whole : ℕ → Option Stored → Type 0
Whole long None = Unit {0}
Whole long (Some s) = Held long (span_of s)

-- the longest way: 33 NAMEs of 64 bytes, a dot between two
abbrev pub most_way : ℕ
most_way = 2144

-- ---- the answer that is made
abbrev pub topmost : ℕ → ScopeAt
topmost k = record { row = k; way = true; from = 0; len = 0 }
