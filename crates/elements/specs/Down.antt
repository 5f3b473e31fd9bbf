-- One instance down by the first part of an element: which instance, and what is left of the element.
-- Assumes nothing.
use Rattle.std.specs.Prelude.{ℕ, ◌<◌, ◌≡◌, List, [], not, length, Option, None, Some, option_map}
use Rattle.text.specs.Ascii.{Bytes}
use Rattle.text.specs.Compare.{same}
use Rattle.joblines.specs.Job.{Inst, Module}
use Rattle.jobindex.specs.Index.{module_row}
use Rattle.design.specs.Lists.{those}
use Rattle.design.specs.Lookup.{instance_named}
use Rattle.lines.specs.Cursors.{spanned}
use Rattle.memo.specs.Known.{Leads, Known}
use Rattle.names.specs.Name.{name_of}
use Rattle.names.specs.Parts.{parts, first_part, others}
use Rattle.elements.specs.declared.Down.{Down}

-- the parts that are not empty
abbrev pub filled : List Bytes → List Bytes
filled ps = those (λ p. not (same p [])) ps

-- the module name of the instance that the first part names
abbrev pub type_below : Module → Bytes → Option Bytes
type_below m s = option_map (λ (i : Inst). i.type) (instance_named m (first_part (parts s)))

-- what is left of s has the filled parts behind its first one, and is shorter
pub record Behind (s left : Bytes) : Type 0 where
  pub says : filled (parts left) ≡ filled (others (parts s))
  pub shorter : 0 < length s → length left < length s

abbrev pub DownIs : Bytes → Bytes → Module → Bytes → Option Down → Type 0
DownIs job mem m s None = type_below m s ≡ None
DownIs job mem m s (Some r) = (type_below m s ≡ Some (spanned job r.kind)) × Behind s (name_of mem r.rest)

-- where the lines begin whose first instance it is
abbrev pub DownAt : Bytes → List ℕ → ℕ → Option Down → Type 0
DownAt job index k None = Unit {0}
DownAt job index k (Some r) = Leads job index k r.at

-- what one step down from module k by the element s comes to
pub record DownSeen (job mem : Bytes) (index : List ℕ) (k : ℕ) (s : Bytes) (r : Option Down) : Type 0 where
  pub is : DownIs job mem (module_row job index k) s r
  pub place : DownAt job index k r

-- the same with a memo, which is known then too
pub record StepSeen (job mem : Bytes) (index : List ℕ) (k : ℕ) (s : Bytes) (r : Option Down) (memo : List ℕ) : Type 0 where
  pub down : DownSeen job mem index k s r
  pub known : Known job index memo
