-- What it is that an element reaches a path: said by a chain of instances, apart from the walk.
-- Assumes nothing.
use Rattle.std.specs.Prelude.{ℕ, ◌≤◌, ◌<◌, ◌≡◌, false, ◌⊎◌, length, Some}
use mathlib.Core.List.{List, [], ◌∷◌, ◌++◌, map, Memᴰ as Mem}
use Rattle.text.specs.Ascii.{Bytes, byte}
use Rattle.joblines.specs.Job.{Inst, Module, Job}
use Rattle.joblines.specs.Parse.{parse, accepted}
use Rattle.design.specs.Lookup.{instances, module_named, module_at}
use Rattle.design.specs.Ports.{losable}
use Rattle.design.specs.Paths.{child_path, element_path, retained_path, parts, filled_parts}

-- ---- chains

-- "a chain of .. such instances": each is an instance with D 0 of the module before it, and its own module is listed; `last` is the last one's
abbrev pub Leads : List Module → Module → List Inst → Module → Type 0
Leads d m [] last = m ≡ last
Leads d m (i ∷ is) last =
    (m' : Module) × Mem i (instances m) × (i.dims ≡ false) × (module_named d i.type ≡ Some m') × Leads d m' is last

-- the path at the end of a chain that begins at a path
abbrev pub end_of : Bytes → List Inst → Bytes
end_of path [] = path
end_of path (i ∷ is) = end_of (child_path path i.name) is

-- the paths of the "modules on the way, first and last included"
abbrev pub on_way : Bytes → List Inst → List Bytes
on_way path [] = path ∷ []
on_way path (i ∷ is) = path ∷ on_way (child_path path i.name) is

-- ---- reaching

-- "an element reaches a path when a chain of at most 32 such instances leads to a module with that losable name, .., and no module on the way,
-- first and last included, has a retained path, one equal to an entry": from a module at a path, to the path q
pub record Reaches (d : List Module) (retained : List Bytes) (most : ℕ) (m : Module) (path q : Bytes) : Type 0 where
  pub chain : List Inst
  pub short : length chain ≤ most
  pub last : Module
  pub leads : Leads d m chain last
  pub clear : (v : Bytes) → Mem v (on_way path chain) → Mem v retained → ⊥
  pub name : Bytes
  pub loses : Mem name (losable last)
  pub written : q ≡ child_path (end_of path chain) name

-- an element, "from the module that the Rust's lookup in the module lines finds for the element below the scope"
pub record ElementReaches (d : List Module) (base : Module) (scope entries : List Bytes) (e q : Bytes) : Type 0 where
  pub start : Module
  pub found : module_at d base (filled_parts e) ≡ Some start
  pub reaches : Reaches d (map (retained_path scope) entries) 32 start (element_path scope e) q

-- some element of a domain
pub record DomainReaches (d : List Module) (base : Module) (scope entries es : List Bytes) (q : Bytes) : Type 0 where
  pub element : Bytes
  pub has : Mem element es
  pub reached : ElementReaches d base scope entries element q

-- ---- paths beneath a path

-- q lies beneath v: it begins with v and a dot; beneath the empty path, which is the top's, lies every other
abbrev pub Beneath : Bytes → Bytes → Type 0
Beneath v q = ((v ≡ []) × (0 < length q)) ⊎ ((rest : Bytes) × (q ≡ v ++ byte "." ∷ rest))

-- ---- lists and their numbers

-- each member stands there one time
abbrev pub Distinct : List Bytes → Type 0
Distinct [] = Unit {0}
Distinct (q ∷ l) = (Mem q l → ⊥) × Distinct l

-- n is the number of different byte strings that have the property P
pub record NumberOf (P : Bytes → Type 0) (n : ℕ) : Type 0 where
  pub list : List Bytes
  pub distinct : Distinct list
  pub all : (q : Bytes) → P q → Mem q list
  pub only : (q : Bytes) → Mem q list → P q
  pub many : length list ≡ n

-- "it is two others joined when its entries are theirs, in any order and number"
pub record Joined (one other both : List Bytes) : Type 0 where
  pub from : (e : Bytes) → Mem e both → Mem e one ⊎ Mem e other
  pub first : (e : Bytes) → Mem e one → Mem e both
  pub second : (e : Bytes) → Mem e other → Mem e both

-- no part of the element is empty, "save the one empty altogether"
abbrev pub Whole : Bytes → Type 0
Whole e = (e ≡ []) ⊎ (Mem [] (parts e) → ⊥)

-- ---- the scope of an accepted job

-- the job t is accepted, and the scope path exists below its top; `base` is the module there
pub record Scope (t : Bytes) (j : Job) (scope : List Bytes) (base : Module) : Type 0 where
  pub accepts : parse t ≡ accepted j
  pub top : Module
  pub is_top : module_named j.modules j.top ≡ Some top
  pub exists : module_at j.modules top scope ≡ Some base
