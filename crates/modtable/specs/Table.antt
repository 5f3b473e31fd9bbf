-- How a table of numbers stands for the modules of a job: the names that each loses, and the instances through which the walk goes down.
-- Assumes nothing.
use Rattle.std.specs.Prelude.{ℕ, ◌+◌, ◌*◌, ◌≤◌, ◌<◌, ◌≡◌, cond, List, [], ◌∷◌, ltb, set}
use Rattle.text.specs.Ascii.{Bytes}
use Rattle.joblines.specs.Job.{Inst, Module}
use Rattle.jobindex.specs.Index.{num, bytes_at, module_row, rows}
use Rattle.jobindex.specs.declared.Span.{Span}
use Rattle.lookup.specs.Rows.{modules}
use Rattle.design.specs.Lists.{on_some}
use Rattle.design.specs.Ports.{losable}
use Rattle.walk.specs.Walk.{entered}

-- ---- places

-- where the numbers of module k begin: how many names it has, and the names
abbrev pub names_at : ℕ → ℕ
names_at k = 578 * k

abbrev pub name_place : ℕ → ℕ → ℕ
name_place k i = 578 * k + 1 + 2 * i

-- how many instances it has, and the instances
abbrev pub ways_at : ℕ → ℕ
ways_at k = 578 * k + 385

abbrev pub way_place : ℕ → ℕ → ℕ
way_place k j = 578 * k + 386 + 3 * j

-- ---- what the numbers stand for

-- a part of the job
abbrev pub part_at : Bytes → List ℕ → ℕ → Bytes
part_at job table p = bytes_at job (num table p) (num table (p + 1))

abbrev pub name_in : Bytes → List ℕ → ℕ → ℕ → Bytes
name_in job table k i = part_at job table (name_place k i)

abbrev pub way_name : Bytes → List ℕ → ℕ → ℕ → Bytes
way_name job table k j = part_at job table (way_place k j)

-- an instance through which the walk goes down: its name, and its module
pub record Way : Type 0 where
  pub name : Bytes
  pub into : Module

abbrev pub way_in : Bytes → List ℕ → List ℕ → ℕ → ℕ → Way
way_in job index table k j = record { name = way_name job table k j; into = module_row job index (num table (way_place k j + 2)) }

-- the same with the number of its module
pub record Down : Type 0 where
  pub name : Bytes
  pub row : ℕ

abbrev pub down_in : Bytes → List ℕ → ℕ → ℕ → Down
down_in job table k j = record { name = way_name job table k j; row = num table (way_place k j + 2) }

-- all of module k
abbrev pub names_of : Bytes → List ℕ → ℕ → List Bytes
names_of job table k = rows (name_in job table k) (num table (names_at k))

abbrev pub ways_of : Bytes → List ℕ → List ℕ → ℕ → List Way
ways_of job index table k = rows (way_in job index table k) (num table (ways_at k))

abbrev pub downs_of : Bytes → List ℕ → ℕ → List Down
downs_of job table k = rows (down_in job table k) (num table (ways_at k))

-- a non-output port, as it is listed for the module at hand
abbrev pub input_in : Bytes → List ℕ → ℕ → Bytes
input_in job inputs i = part_at job inputs (2 * i)

-- ---- the table of a job

-- "The walk goes down from a module into its instances with D 0 whose module is listed"
unfoldable pub ways_down : List Module → List Inst → List Way
ways_down d [] = []
ways_down d (i ∷ is) = on_some (entered d i) (ways_down d is) λ m. record { name = i.name; into = m } ∷ ways_down d is

pub record ModuleTabled (job : Bytes) (index : List ℕ) (count : ℕ) (table : List ℕ) (k : ℕ) : Type 0 where
  pub names : names_of job table k ≡ losable (module_row job index k)
  pub ways : ways_of job index table k ≡ ways_down (modules job index count) (module_row job index k).insts
  pub names_few : num table (names_at k) ≤ 192
  pub ways_few : num table (ways_at k) ≤ 64
  pub within : (j : ℕ) → j < num table (ways_at k) → num table (way_place k j + 2) < count

-- of every module
abbrev pub Tabled : Bytes → List ℕ → ℕ → List ℕ → Type 0
Tabled job index count table = (k : ℕ) → k < count → ModuleTabled job index count table k

-- ---- as the code stores

abbrev pub low_of : ℕ → ℕ
low_of x = cond (ltb x 4294967295) x 4294967295

abbrev pub part_put : List ℕ → ℕ → Span → List ℕ
part_put t p s = set (set t p (low_of s.at)) (p + 1) (low_of s.len)
