-- What the answers about instances say. Assumes nothing.
use Rattle.std.specs.Prelude.{ℕ, ◌≤◌, ◌<◌, ◌^◌, ◌≡◌, true, false, List, [], ◌∷◌, ◌++◌, length, take, Option, None, Some}
use Rattle.text.specs.Ascii.{Bytes, ascii, byte}
use Rattle.text.specs.Scan.{any, is}
use Rattle.joblines.specs.Job.{Inst}
use Rattle.joblines.specs.Sections.{conns_in}
use Rattle.jobindex.specs.Index.{section, module_row}
use Rattle.design.specs.Lookup.{instance_named}
use Rattle.lines.specs.Cursors.{spanned}
use Rattle.lookup.specs.Rows.{modules, insts_end}
use Rattle.memo.specs.Known.{Leads, Known}
use Rattle.names.specs.Name.{name_of}
use Rattle.names.specs.Parts.{parts, first_part}
use Rattle.names.specs.declared.name.Name.{Name}
use Rattle.refs.specs.Text.{text_of}
use Rattle.texts.specs.Isolation.{last_part, front_parts, below_parent}
use Rattle.targets.specs.Instance.{Instance, instance_at}
use Rattle.targets.specs.declared.Slash.{Slash}
use Rattle.targets.specs.declared.Part.{Part}
use Rattle.targets.specs.declared.Part.TheVariants as part
use Rattle.targets.specs.declared.Down.{Down}
use Rattle.targets.specs.declared.Down.TheVariants as down
use Rattle.targets.specs.declared.Place.{Place}

-- ---- the last slash of a name: what stands up to it and what is behind it make up the name
pub record SlashAt (mem : Bytes) (e : Name) (r : Slash) : Type 0 where
  pub there : any (is (byte "/")) (name_of mem e) ≡ true
  pub whole : take r.upto (name_of mem e) ++ name_of mem r.rest ≡ name_of mem e
  pub inside : r.upto ≤ length (name_of mem e)
  pub last : name_of mem r.rest ≡ last_part (parts (name_of mem e))
  pub slash : (front : Bytes) × (take r.upto (name_of mem e) ≡ front ++ ascii "/")

abbrev pub SlashSeen : Bytes → Name → Option Slash → Type 0
SlashSeen mem e None = any (is (byte "/")) (name_of mem e) ≡ false
SlashSeen mem e (Some s) = SlashAt mem e s

-- ---- whether the first part is the one looked for: the others then
abbrev pub part_is : Bytes → Bytes → Part → Option (List Bytes)
part_is job mem part.Other = None
part_is job mem part.Last = Some []
part_is job mem (part.More r) = Some (parts (text_of job mem r))

-- ---- one instance down from module k by the first part of t
abbrev pub DownIs : Bytes → List ℕ → ℕ → Bytes → Bytes → Option Down → Type 0
DownIs job index k mem t None = instance_named (module_row job index k) (first_part (parts t)) ≡ None
DownIs job index k mem t (Some (down.Last at kind conns)) =
    (parts t ≡ first_part (parts t) ∷ [])
    × ((i : Inst) × ((instance_named (module_row job index k) (first_part (parts t)) ≡ Some i) × ((i.type ≡ spanned job kind) × (i.conns ≡ conns_in (section job conns (insts_end index k))))))
DownIs job index k mem t (Some (down.More at kind size rest)) =
    (parts t ≡ first_part (parts t) ∷ parts (text_of job mem rest))
    × ((size ≡ length (first_part (parts t)))
    × ((i : Inst) × ((instance_named (module_row job index k) (first_part (parts t)) ≡ Some i) × (i.type ≡ spanned job kind))))

-- where the lines begin whose first instance it is
abbrev pub DownAt : Bytes → List ℕ → ℕ → Option Down → Type 0
DownAt job index k None = Unit {0}
DownAt job index k (Some (down.Last at kind conns)) = Leads job index k at
DownAt job index k (Some (down.More at kind size rest)) = Leads job index k at

pub record DownSeen (job : Bytes) (index : List ℕ) (k : ℕ) (mem t : Bytes) (r : Option Down) : Type 0 where
  pub is : DownIs job index k mem t r
  pub place : DownAt job index k r

-- the same with a memo, which is known then too
pub record StepSeen (job : Bytes) (index : List ℕ) (k : ℕ) (mem t : Bytes) (r : Option Down) (memo : List ℕ) : Type 0 where
  pub down : DownSeen job index k mem t r
  pub known : Known job index memo

-- ---- the instance that a text leads to

-- what a lookup with a memo rests on: it goes from module k, of so many, by the parts of t
pub record Sought (job : Bytes) (index : List ℕ) (count k : ℕ) (t : Bytes) (memo : List ℕ) : Type 0 where
  pub few : count ≤ 128
  pub row : k < count
  pub small : length t < 2 ^ 63
  pub known : Known job index memo

abbrev pub place_is : Bytes → List ℕ → Option Place → Option Instance
place_is job index None = None
place_is job index (Some p) = Some (record { parent = module_row job index p.parent; conns = conns_in (section job p.conns (insts_end index p.parent)); sub = module_row job index p.sub })

-- a place that was found by the parts of t, among so many modules
pub record PlaceAt (count : ℕ) (t : Bytes) (p : Place) : Type 0 where
  pub parent_row : p.parent < count
  pub sub_row : p.sub < count
  pub inside : p.upto ≤ length t
  pub front : (n : Bytes) → below_parent (front_parts (parts t)) n ≡ take p.upto t ++ n

abbrev pub PlaceIn : ℕ → Bytes → Option Place → Type 0
PlaceIn count t None = Unit {0}
PlaceIn count t (Some p) = PlaceAt count t p

pub record PlaceSeen (job : Bytes) (index : List ℕ) (count k : ℕ) (t : Bytes) (r : Option Place) : Type 0 where
  pub is : place_is job index r ≡ instance_at (modules job index count) (module_row job index k) (parts t)
  pub place : PlaceIn count t r
