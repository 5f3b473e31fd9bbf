-- What the walk over the job and its index is given, and what it comes to. A module's path is the element with `/` as `.` and the front of the tail.
-- Assumes nothing.
use Rattle.std.specs.Prelude.{ℕ, ◌+◌, ◌*◌, ◌≤◌, ◌<◌, ◌^◌, ◌≡◌, cond, eqb, length, take, Result}
use mathlib.Core.List.{List, [], ◌∷◌, ◌++◌, Memᴰ as Mem}
use Rattle.text.specs.Ascii.{Bytes, byte}
use Rattle.joblines.specs.Job.{Inst}
use Rattle.jobindex.specs.Index.{num, module_row}
use Rattle.names.specs.Name.{name_of}
use Rattle.names.specs.declared.name.Name.{Name}
use Rattle.design.specs.Lists.{add_all}
use Rattle.design.specs.Paths.{dotted}
use Rattle.walk.specs.Limits.{most_depth, most_paths, most_path_bytes}
use Rattle.walk.specs.Walk.{retained_paths}
use Rattle.pathnumber.specs.Number.{number}
use Rattle.listing.specs.Listing.{flag_count, Answer}
use Rattle.listing.specs.declared.TooMany.{TooMany}
use Rattle.listing.specs.declared.Walk.{Walk}
use Rattle.modtable.specs.Table.{names_at, Tabled}
use Rattle.corrupt.specs.OverTable.{lost_below, entered_below, Sound}

-- the names of instances have at most 64 bytes
abbrev pub Short : Bytes → List ℕ → ℕ → Type 0
Short job index count = (k : ℕ) → k < count → (i : Inst) → Mem i (module_row job index k).insts → length i.name ≤ 64

-- for the names of one module
pub record OwnGiven (job : Bytes) (table : List ℕ) (k : ℕ) (mem : Bytes) (e : Name) (elen h : ℕ) (tail : Bytes) : Type 0 where
  pub row : k ≤ 128
  pub few : num table (names_at k) ≤ 192
  pub elen_is : elen ≡ length (name_of mem e)
  pub number_is : h ≡ number 0 (dotted (name_of mem e))
  pub fits : elen + (length tail + length job) < 2 ^ 40

-- for the walk from one module: a tail of 2,080 bytes has room for the instances left, each with a dot
pub record Given (job : Bytes) (table : List ℕ) (k left : ℕ) (mem : Bytes) (n : ℕ) (e : Name) (elen h t : ℕ) : Type 0 where
  pub sound : Sound job table k
  pub entries_few : n ≤ 65536
  pub elen_is : elen ≡ length (name_of mem e)
  pub number_is : h ≡ number 0 (dotted (name_of mem e))
  pub elen_small : elen < 2 ^ 36
  pub job_small : length job < 2 ^ 32
  pub room : t + 65 * left ≤ 65 * most_depth

-- for the walk of a domain
pub record DomainGiven (job : Bytes) (index : List ℕ) (count k : ℕ) (table : List ℕ) (files area : Bytes) (n m prefix : ℕ) (tail text : Bytes) (ends : List ℕ) : Type 0 where
  pub few : count ≤ 128
  pub row : k < count
  pub job_small : length job < 2 ^ 32
  pub memory_small : length files + length area < 2 ^ 32
  pub entries_few : n ≤ 65536
  pub elements_few : m ≤ 65536
  pub prefix_small : prefix < 2 ^ 32
  pub tail_long : 2081 ≤ length tail
  pub text_long : most_path_bytes ≤ length text
  pub ends_long : most_paths + flag_count ≤ length ends
  pub short : Short job index count
  pub tabled : Tabled job index count table

-- the dot behind a path of elen and t bytes that is not empty
abbrev pub dot_behind : ℕ → ℕ → Bytes
dot_behind elen t = cond (eqb (elen + t) 0) [] (byte "." ∷ [])

pub record Stemmed (elen t : ℕ) (tail tail' : Bytes) (r : ℕ) : Type 0 where
  pub place : r ≡ t + length (dot_behind elen t)
  pub front : take r tail' ≡ take t tail ++ dot_behind elen t
  pub kept : length tail' ≡ length tail

-- the answer of the walk from row k, called after v modules were entered and ps listed; the front of the tail is kept
pub record Walked (job : Bytes) (table : List ℕ) (k left : ℕ) (mem : Bytes) (entries : List Bytes) (e : Name) (tail tail' : Bytes) (t prefix v : ℕ) (ps : List Bytes) (r : Result Walk TooMany) (text : Bytes) (ends : List ℕ) : Type 0 where
  pub kept : take t tail' ≡ take t tail
  pub answer : Answer prefix (v + entered_below job table (retained_paths [] entries) left k (dotted (name_of mem e) ++ take t tail)) (add_all ps (lost_below job table (retained_paths [] entries) left k (dotted (name_of mem e) ++ take t tail))) r text ends
