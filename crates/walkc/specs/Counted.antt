-- The numbers that a caller in C or Rust is told. Assumes nothing.
use Rattle.std.specs.Prelude.{ℕ, Bool, true, false, cond, List, eqb, length}
use Rattle.text.specs.Ascii.{Bytes}
use Rattle.names.specs.declared.name.Form.{Form}
use Rattle.names.specs.declared.name.Form.TheVariants.{Word, Entry, Quoted}
use Rattle.joblines.specs.Parse.{Parsed, accepted, refused}
use Rattle.listing.specs.Listing.{Within, Listed}
use Rattle.listing.specs.declared.Walk.{Walk}

-- how many modules a job has, 0 for one that is refused
abbrev pub module_count : Parsed → ℕ
module_count (accepted j) = length j.modules
module_count (refused x n) = 0

abbrev pub walk_by : ℕ → ℕ → ℕ → ℕ → ℕ → Walk
walk_by entered count end used stamp = record { entered = entered; count = count; end = end; used = used; stamp = stamp }

-- the form that a number stands for: 0 a word, 2 a quoted entry, else an entry
abbrev pub form_of : ℕ → Form
form_of k = cond (eqb k 0) Word (cond (eqb k 2) Quoted Entry)

-- a walk by its numbers, whatever its stamp is
pub record Told (prefix v : ℕ) (ps : List Bytes) (entered count end used : ℕ) (text : Bytes) (ends : List ℕ) : Type 0 where
  pub stamp : ℕ
  pub listed : Listed prefix v ps (walk_by entered count end used stamp) text ends

-- the answer of a walk: whether a limit is passed, else its numbers
abbrev pub Walked : ℕ → ℕ → List Bytes → Bool → ℕ → ℕ → ℕ → ℕ → Bytes → List ℕ → Type 0
Walked prefix v ps false entered count end used text ends = Told prefix v ps entered count end used text ends
Walked prefix v ps true entered count end used text ends = Within prefix v ps → ⊥
