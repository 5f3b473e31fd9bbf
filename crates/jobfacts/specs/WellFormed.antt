-- What every accepted job has: its names are NAMEs, its counts are within their limits, what has to be new is distinct, `start` and `top` are listed.
-- Assumes nothing.
use Rattle.std.specs.Prelude.{◌≤◌, ◌≡◌, Bool, true, not, ◌&&◌, List, [], ◌∷◌, map, length}
use Rattle.text.specs.Ascii.{Bytes}
use Rattle.text.specs.Compare.{same}
use Rattle.text.specs.Scan.{any}
use Rattle.fields.specs.Fields.{is_name, is_path, is_net}
use Rattle.fields.specs.Limits.{most_files, most_modules, most_ports, most_decls, most_insts, most_conns}
use Rattle.joblines.specs.Job.{File, Port, Decl, Conn, star, implicit, named, pos, Inst, Module, Job}

-- a fact of every element
abbrev pub All : {A : Type 0} → (A → Type 0) → List A → Type 0
All P [] = Unit {0}
All P (x ∷ xs) = P x × All P xs

-- no two are the same
unfoldable pub distinct : List Bytes → Bool
distinct [] = true
distinct (x ∷ xs) = not (any (λ y. same y x) xs) && distinct xs

abbrev pub GoodPort : Port → Type 0
GoodPort p = is_name p.name ≡ true

abbrev pub GoodDecl : Decl → Type 0
GoodDecl d = is_name d.name ≡ true

-- a PORT is a NAME, a NET is a NAME or `-`
abbrev pub GoodConn : Conn → Type 0
GoodConn star = Unit {0}
GoodConn (implicit p) = is_name p ≡ true
GoodConn (named p n) = (is_name p ≡ true) × (is_net n ≡ true)
GoodConn (pos n) = is_net n ≡ true

pub record GoodInst (i : Inst) : Type 0 where
  pub name : is_name i.name ≡ true
  pub type : is_name i.type ≡ true
  pub conns : All GoodConn i.conns
  pub conns_few : length i.conns ≤ most_conns

pub record GoodModule (m : Module) : Type 0 where
  pub name : is_name m.name ≡ true
  pub ports : All GoodPort m.ports
  pub ports_few : length m.ports ≤ most_ports
  pub decls : All GoodDecl m.decls
  pub decls_few : length m.decls ≤ most_decls
  pub insts : All GoodInst m.insts
  pub insts_few : length m.insts ≤ most_insts
  pub insts_distinct : distinct (map (λ (i : Inst). i.name) m.insts) ≡ true

abbrev pub GoodFile : File → Type 0
GoodFile f = is_path f.path ≡ true

-- the files and the modules of a job, as far as it is read
pub record GoodLists (j : Job) : Type 0 where
  pub files : All GoodFile j.files
  pub files_few : length j.files ≤ most_files
  pub files_distinct : distinct (map (λ (f : File). f.path) j.files) ≡ true
  pub modules : All GoodModule j.modules
  pub modules_few : length j.modules ≤ most_modules
  pub modules_distinct : distinct (map (λ (m : Module). m.name) j.modules) ≡ true

pub record WellFormed (j : Job) : Type 0 where
  pub lists : GoodLists j
  pub top_name : is_name j.top ≡ true
  pub start_path : is_path j.start ≡ true
  pub start_listed : any (λ (f : File). same f.path j.start) j.files ≡ true
  pub top_listed : any (λ (m : Module). same m.name j.top) j.modules ≡ true
