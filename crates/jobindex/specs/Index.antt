-- How the index stands for the job. Rows have fixed places; where a row says where something is in the job, it is the bytes there.
--   0 to 127       32 files, 4 numbers each: path at, path length, body at, body length
--   128 to 1151    128 modules, 8 numbers each: name at, name length, style, where its ports, declarations and instances begin, where it
--                  ends, number of instances
--   1152 to 1279   64 names of the instances of the module that is being read, 2 numbers each: name at, name length
-- Assumes nothing.
use Rattle.std.specs.Prelude.{ℕ, zero, suc, ◌+◌, ◌-◌, ◌*◌, ◌<◌, ◌≡◌, cond, List, [], ◌∷◌, ◌++◌, take, drop, get_or, Option, None, Some}
use Rattle.text.specs.Ascii.{Bytes}
use Rattle.text.specs.Compare.{same}
use Rattle.fields.specs.Meant.{style_at}
use Rattle.joblines.specs.Job.{File, Module, Job}
use Rattle.joblines.specs.Sections.{ports_in, decls_in, insts_in}
use Rattle.jobindex.specs.declared.Header.{Header}
use Rattle.jobindex.specs.declared.Table.{Table}
use Rattle.jobindex.specs.declared.Table.TheVariants as table

-- how many numbers the index has
abbrev pub index_size : ℕ
index_size = 1280

-- the bytes at a place; the section from a up to e
abbrev pub bytes_at : Bytes → ℕ → ℕ → Bytes
bytes_at job at len = take len (drop at job)

abbrev pub section : Bytes → ℕ → ℕ → Bytes
section job a e = take (e - a) (drop a job)

abbrev pub num : List ℕ → ℕ → ℕ
num index i = get_or index i 0

-- ---- files
unfoldable pub path_at : Bytes → List ℕ → ℕ → Bytes
path_at job index k = bytes_at job (num index (4 * k)) (num index (4 * k + 1))

unfoldable pub body_at : Bytes → List ℕ → ℕ → Bytes
body_at job index k = bytes_at job (num index (4 * k + 2)) (num index (4 * k + 3))

abbrev pub file_at : Bytes → List ℕ → ℕ → File
file_at job index k = record { path = path_at job index k; body = body_at job index k }

-- ---- modules
-- the module with its name at n for l, a style, its ports from p, its declarations from d, its instances from i, up to e
abbrev pub module_of : Bytes → ℕ → ℕ → ℕ → ℕ → ℕ → ℕ → ℕ → Module
module_of job n l style p d i e =
    record {
      name = bytes_at job n l;
      style = style_at style;
      ports = ports_in (section job p d);
      decls = decls_in (section job d i);
      insts = insts_in (section job i e);
    }

-- where the row of module k begins
abbrev pub row_at : ℕ → ℕ
row_at k = 128 + 8 * k

unfoldable pub name_at : Bytes → List ℕ → ℕ → Bytes
name_at job index k = bytes_at job (num index (row_at k)) (num index (row_at k + 1))

unfoldable pub module_row : Bytes → List ℕ → ℕ → Module
module_row job index k =
    module_of job
    (num index (row_at k)) (num index (row_at k + 1)) (num index (row_at k + 2)) (num index (row_at k + 3)) (num index (row_at k + 4))
    (num index (row_at k + 5)) (num index (row_at k + 6))

-- ---- the names of the instances of the module that is being read
unfoldable pub inst_at : Bytes → List ℕ → ℕ → Bytes
inst_at job index k = bytes_at job (num index (1152 + 2 * k)) (num index (1152 + 2 * k + 1))

-- ---- rows in order
unfoldable pub rows : {A : Type 0} → (ℕ → A) → ℕ → List A
rows f zero = []
rows f (suc n) = rows f n ++ (f n ∷ [])

-- the name of row k of a table
abbrev pub named_at : Table → Bytes → List ℕ → ℕ → Bytes
named_at table.Files = path_at
named_at table.Modules = name_at
named_at table.Insts = inst_at

-- where the name of a table's first row stands, and how far on the next one is
abbrev pub first_of : Table → ℕ
first_of table.Files = 0
first_of table.Modules = 128
first_of table.Insts = 1152

abbrev pub step_of : Table → ℕ
step_of table.Files = 4
step_of table.Modules = 8
step_of table.Insts = 2

-- the last of the first n rows with a name
unfoldable pub row_of : (ℕ → Bytes) → Bytes → ℕ → Option ℕ
row_of f name zero = None
row_of f name (suc k) = cond (same (f k) name) (Some k) (row_of f name k)

-- ---- the job that an index stands for
abbrev pub job_of : Bytes → List ℕ → Header → Job
job_of job index head =
    record {
      top = bytes_at job head.top.at head.top.len;
      override = bytes_at job head.over.at head.over.len;
      start = bytes_at job head.start.at head.start.len;
      files = rows (file_at job index) head.files;
      modules = rows (module_row job index) head.modules;
    }

-- the index stands for the job j: what every later layer requires
pub record Indexed (job : Bytes) (index : List ℕ) (head : Header) (j : Job) : Type 0 where
  pub stands : job_of job index head ≡ j
  pub start_row : head.startfile < head.files
  pub start_is : path_at job index head.startfile ≡ j.start
  pub top_row : head.topmodule < head.modules
  pub top_is : name_at job index head.topmodule ≡ j.top
