-- What a lookup comes to. A module is the number of its row; the modules of the job are the rows of its index.
-- Assumes nothing.
use Rattle.std.specs.Prelude.{ℕ, ◌+◌, ◌<◌, ◌≡◌, refl, List, [], ◌∷◌, Option, None, Some, unwrap_or}
use Rattle.text.specs.Ascii.{Bytes}
use Rattle.joblines.specs.Job.{Inst, Module}
use Rattle.joblines.specs.Sections.{insts_in}
use Rattle.jobindex.specs.Index.{num, row_at, section, module_row, rows}
use Rattle.design.specs.Lists.{on_some}
use Rattle.design.specs.Lookup.{module_named, instance_named, module_at}
use Rattle.lines.specs.Cursors.{inst_is}
use Rattle.lines.specs.declared.InstAt.{InstAt}

-- the modules of the job, in the order of their lines
abbrev pub modules : Bytes → List ℕ → ℕ → List Module
modules job index count = rows (module_row job index) count

-- the module of a row that was found
abbrev pub row_is : Bytes → List ℕ → Option ℕ → Option Module
row_is job index None = None
row_is job index (Some k) = Some (module_row job index k)

-- no row is no module
pub row_none : (job : Bytes) (index : List ℕ) → row_is job index None ≡ None
row_none job index = refl

-- one that was found is the module of its number, which is read from q whatever z is
pub row_some : (job : Bytes) (index : List ℕ) (q : Option ℕ) (z : ℕ) → (q ≡ None → ⊥) → row_is job index q ≡ Some (module_row job index (unwrap_or q z))
row_some job index None z h = absurd (h refl)
row_some job index (Some k) z h = refl

-- the row is one of the first `count`
abbrev pub RowIn : ℕ → Option ℕ → Type 0
RowIn count None = Unit {0}
RowIn count (Some k) = k < count

pub record ModuleSeen (job : Bytes) (index : List ℕ) (count : ℕ) (m : Option Module) (r : Option ℕ) : Type 0 where
  pub says : row_is job index r ≡ m
  pub within : RowIn count r

-- ---- the instance lines of module k
abbrev pub insts_from : List ℕ → ℕ → ℕ
insts_from index k = num index (row_at k + 5)

abbrev pub insts_end : List ℕ → ℕ → ℕ
insts_end index k = num index (row_at k + 6)

pub insts_are : (job : Bytes) (index : List ℕ) (k : ℕ) → (module_row job index k).insts ≡ insts_in (section job (insts_from index k) (insts_end index k))
unfolding module_row
insts_are job index k = refl

-- the instance that a line is, of a module that ends at `end`
abbrev pub line_is : Bytes → ℕ → Option InstAt → Option Inst
line_is job end None = None
line_is job end (Some r) = Some (inst_is job end r.dims r.name r.kind r.next)

pub record InstanceSeen (job : Bytes) (index : List ℕ) (k : ℕ) (name : Bytes) (r : Option InstAt) : Type 0 where
  pub says : line_is job (insts_end index k) r ≡ instance_named (module_row job index k) name

-- ---- one instance down
abbrev pub below : List Module → Module → Bytes → Option Module
below d m n = on_some (instance_named m n) None λ i. module_named d i.type

pub at_none : (d : List Module) (m : Module) → module_at d m [] ≡ Some m
unfolding module_at
at_none d m = refl

pub at_more : (d : List Module) (m : Module) (n : Bytes) (ns : List Bytes) → module_at d m (n ∷ ns) ≡ on_some (below d m n) None λ m'. module_at d m' ns
unfolding module_at
at_more d m n ns = go (instance_named m n)
  where
    go : (o : Option Inst) → on_some o None (λ i. on_some (module_named d i.type) None λ m'. module_at d m' ns) ≡ on_some (on_some o None λ i. module_named d i.type) None λ m'. module_at d m' ns
    go None = refl
    go (Some i) = refl
