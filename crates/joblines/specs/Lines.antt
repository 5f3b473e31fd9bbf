-- The lines of a job, one definition for each kind (document 01, "The job comes in"). A kind is given the job read so far, the line
-- without its LF and the bytes behind that LF. It answers `none` where the line's key is another kind's.
-- Assumes nothing.
use Rattle.std.specs.Prelude.{ℕ, ◌+◌, Bool, true, false, cond, not, ◌&&◌, List, [], ◌∷◌, ◌++◌, map, length, take, drop, get_or, ltb, eqb, option_map, Option, None, Some}
use Prim.Native.String.{String}
use Rattle.text.specs.Ascii.{Bytes, ascii, byte}
use Rattle.text.specs.Compare.{same, starts_with}
use Rattle.text.specs.Scan.{any, split_at}
use Rattle.text.specs.Numbers.{is_decimal, value_from}
use Rattle.fields.specs.Limits.{most_files, most_modules, most_ports, most_decls, most_insts, most_conns}
use Rattle.fields.specs.Fields.{Dir, Style, empty, Kind, is_name, is_path, dims_of, dir_of, kind_of, style_of, is_net}
use Rattle.joblines.specs.Job.{File, Port, Decl, Conn, star, implicit, named, pos, Inst, Module, Job}

-- which lines are due
pub data Due : Type 0 where
  due_top due_override due_start due_file : Due
  -- `bytes=`, for the file of this path
  due_bytes : Bytes → Due
  -- behind a body: another file, or the first module
  due_more : Due
  -- `style=`, for the module of this name
  due_style : Bytes → Due
  -- in a module: behind its style or a port; behind a declaration; behind an instance or a connection
  due_ports due_decls due_insts : Due
  -- nothing more
  due_nothing : Due

-- what a line comes to: it is refused, by a number; or the reading goes on, with the lines that are due then, the job so far and the bytes left
pub data Read : Type 0 where
  refuse : ℕ → Read
  on : Due → Job → Bytes → Read

-- a line's value, checked: refused by a number, or taken
pub data Checked (A : Type 0) : Type 0 where
  bad : ℕ → Checked A
  good : A → Checked A

-- "Line by line: is it well formed and due here? No: 4. Within its limit? No: 5. Is its path, module, or instance in this module, new? No: 6."
abbrev pub check : {A : Type 0} → Option A → Bool → (A → Bool) → Checked A
check None within new = bad 4
check (Some a) within new = cond within (cond (new a) (good a) (bad 6)) (bad 5)

abbrev pub and_then : {A : Type 0} → Checked A → (A → Read) → Read
and_then (bad n) go = refuse n
and_then (good a) go = go a

abbrev pub checks : {A : Type 0} → Option A → Bool → (A → Bool) → (A → Read) → Read
checks a within new go = and_then (check a within new) go

-- a kind without a limit, and one whose value need not be new
abbrev pub unlimited : Bool
unlimited = true

abbrev pub any_value : {A : Type 0} → A → Bool
any_value a = true

abbrev pub when : {A : Type 0} → Bool → A → Option A
when b a = cond b (Some a) None

-- ---- key=value

-- a line of the kind with this key, with its value; `none` where the key is another
abbrev pub keyed : {A : Type 0} → String → Bytes → (Bytes → A) → Option A
keyed key line read = when (starts_with (ascii key) line) (read (drop (length (ascii key)) line))

-- "Fields are parted by one space."
abbrev pub fields : Bytes → List Bytes
fields v = split_at (byte " ") v

-- ---- the last module, and its last instance

abbrev pub on_last : {A : Type 0} → (A → A) → List A → List A
on_last f [] = []
on_last f (x ∷ []) = f x ∷ []
on_last f (x ∷ y ∷ ys) = x ∷ on_last f (y ∷ ys)

abbrev pub last_or : {A : Type 0} → A → List A → A
last_or z [] = z
last_or z (x ∷ xs) = last_or x xs

abbrev pub no_module : Module
no_module = record { name = []; style = empty; ports = []; decls = []; insts = [] }

abbrev pub no_inst : Inst
no_inst = record { dims = false; name = []; type = []; conns = [] }

abbrev pub this_module : Job → Module
this_module j = last_or no_module j.modules

abbrev pub this_inst : Job → Inst
this_inst j = last_or no_inst (this_module j).insts

abbrev pub with_files : Job → List File → Job
with_files j fs = record { top = j.top; override = j.override; start = j.start; files = fs; modules = j.modules }

abbrev pub with_modules : Job → List Module → Job
with_modules j ms = record { top = j.top; override = j.override; start = j.start; files = j.files; modules = ms }

abbrev pub add_port : Port → Module → Module
add_port p m = record { name = m.name; style = m.style; ports = m.ports ++ (p ∷ []); decls = m.decls; insts = m.insts }

abbrev pub add_decl : Decl → Module → Module
add_decl d m = record { name = m.name; style = m.style; ports = m.ports; decls = m.decls ++ (d ∷ []); insts = m.insts }

abbrev pub with_insts : Module → List Inst → Module
with_insts m is = record { name = m.name; style = m.style; ports = m.ports; decls = m.decls; insts = is }

abbrev pub add_inst : Inst → Module → Module
add_inst i m = with_insts m (m.insts ++ (i ∷ []))

abbrev pub add_conn : Conn → Inst → Inst
add_conn c i = record { dims = i.dims; name = i.name; type = i.type; conns = i.conns ++ (c ∷ []) }

-- ---- top=NAME
unfoldable pub top_line : Job → Bytes → Bytes → Option Read
top_line j line rest = keyed "top=" line λ v.
    checks (when (is_name v) v) unlimited any_value λ n.
    on due_override (record { top = n; override = j.override; start = j.start; files = j.files; modules = j.modules }) rest

-- ---- override=PATH: "The override is any text without LF."
unfoldable pub override_line : Job → Bytes → Bytes → Option Read
override_line j line rest = keyed "override=" line λ v.
    on due_start (record { top = j.top; override = v; start = j.start; files = j.files; modules = j.modules }) rest

-- ---- start=PATH
unfoldable pub start_line : Job → Bytes → Bytes → Option Read
start_line j line rest = keyed "start=" line λ v.
    checks (when (is_path v) v) unlimited any_value λ p.
    on due_file (record { top = j.top; override = j.override; start = p; files = j.files; modules = j.modules }) rest

-- ---- file=PATH: at most 32, each path new
-- beside the paths of the files that the job has
unfoldable pub file_read : List Bytes → Bytes → Option (Checked Bytes)
file_read paths line = keyed "file=" line λ v.
    check (when (is_path v) v) (ltb (length paths) most_files) (λ p. not (any (λ q. same q p) paths))

unfoldable pub file_line : Job → Bytes → Bytes → Option Read
file_line j line rest = option_map (λ (r : Checked Bytes). and_then r λ p. on (due_bytes p) j rest) (file_read (map (λ (f : File). f.path) j.files) line)

-- ---- bytes=N: "(decimal, no leading zero but for 0), then N bytes of UPF and an LF"
-- "A body that runs past the job, or lacks its LF, is a fault of its `bytes=` line"
abbrev pub is_body : ℕ → Bytes → Bool
is_body n rest = ltb n (length rest) && eqb (get_or rest n 0) (byte "\n")

unfoldable pub bytes_line : Bytes → Job → Bytes → Bytes → Option Read
bytes_line path j line rest = keyed "bytes=" line λ v.
    checks (when (is_decimal v && is_body (value_from 0 v) rest) (value_from 0 v)) unlimited any_value λ n.
    on due_more (with_files j (j.files ++ (record { path = path; body = take n rest } ∷ []))) (drop (n + 1) rest)

-- ---- module=NAME: at most 128, each name new
-- beside the names of the modules that the job has
unfoldable pub module_read : List Bytes → Bytes → Option (Checked Bytes)
module_read names line = keyed "module=" line λ v.
    check (when (is_name v) v) (ltb (length names) most_modules) (λ n. not (any (λ m. same m n) names))

unfoldable pub module_line : Job → Bytes → Bytes → Option Read
module_line j line rest = option_map (λ (r : Checked Bytes). and_then r λ n. on (due_style n) j rest) (module_read (map (λ (m : Module). m.name) j.modules) line)

-- ---- style=ansi|nonansi|empty
unfoldable pub style_line : Bytes → Job → Bytes → Bytes → Option Read
style_line name j line rest = keyed "style=" line λ v.
    checks (style_of v) unlimited any_value λ s.
    on due_ports (with_modules j (j.modules ++ (record { name = name; style = s; ports = []; decls = []; insts = [] } ∷ []))) rest

-- ---- port=DIR NAME: at most 64; "style `nonansi` has only `none`, `empty` has no port line"
abbrev pub is_none : Dir → Bool
is_none Dir.input = false
is_none Dir.output = false
is_none Dir.inout = false
is_none Dir.ref = false
is_none Dir.undirected = true

abbrev pub may_have : Style → Dir → Bool
may_have Style.ansi d = true
may_have Style.nonansi d = is_none d
may_have Style.empty d = false

abbrev pub as_port : Style → Option Dir → Bytes → Option Port
as_port s None n = None
as_port s (Some d) n = when (may_have s d && is_name n) (record { dir = d; name = n })

unfoldable pub port_of : Style → List Bytes → Option Port
port_of s [] = None
port_of s (d ∷ []) = None
port_of s (d ∷ n ∷ []) = as_port s (dir_of d) n
port_of s (d ∷ n ∷ e ∷ fs) = None

unfoldable pub port_line : Job → Bytes → Bytes → Option Read
port_line j line rest = keyed "port=" line λ v.
    checks (port_of (this_module j).style (fields v)) (ltb (length (this_module j).ports) most_ports) any_value λ p.
    on due_ports (with_modules j (on_last (add_port p) j.modules)) rest

-- ---- decl=KIND D NAME: at most 128
abbrev pub as_decl : Option Kind → Option Bool → Bytes → Option Decl
as_decl None d n = None
as_decl (Some k) None n = None
as_decl (Some k) (Some d) n = when (is_name n) (record { kind = k; dims = d; name = n })

unfoldable pub decl_of : List Bytes → Option Decl
decl_of [] = None
decl_of (k ∷ []) = None
decl_of (k ∷ d ∷ []) = None
decl_of (k ∷ d ∷ n ∷ []) = as_decl (kind_of k) (dims_of d) n
decl_of (k ∷ d ∷ n ∷ e ∷ fs) = None

unfoldable pub decl_line : Job → Bytes → Bytes → Option Read
decl_line j line rest = keyed "decl=" line λ v.
    checks (decl_of (fields v)) (ltb (length (this_module j).decls) most_decls) any_value λ d.
    on due_decls (with_modules j (on_last (add_decl d) j.modules)) rest

-- ---- inst=D NAME MODULE: at most 64, each name new in this module
abbrev pub as_inst : Option Bool → Bytes → Bytes → Option Inst
as_inst None n m = None
as_inst (Some d) n m = when (is_name n && is_name m) (record { dims = d; name = n; type = m; conns = [] })

unfoldable pub inst_of : List Bytes → Option Inst
inst_of [] = None
inst_of (d ∷ []) = None
inst_of (d ∷ n ∷ []) = None
inst_of (d ∷ n ∷ m ∷ []) = as_inst (dims_of d) n m
inst_of (d ∷ n ∷ m ∷ e ∷ fs) = None

-- beside the names of the instances that the module has
unfoldable pub inst_read : List Bytes → Bytes → Option (Checked Inst)
inst_read names line = keyed "inst=" line λ v.
    check (inst_of (fields v)) (ltb (length names) most_insts) (λ i. not (any (λ n. same n i.name) names))

unfoldable pub inst_line : Job → Bytes → Bytes → Option Read
inst_line j line rest = option_map (λ (r : Checked Inst). and_then r λ i.
    on due_insts (with_modules j (on_last (add_inst i) j.modules)) rest) (inst_read (map (λ (k : Inst). k.name) (this_module j).insts) line)

-- ---- conn=star | implicit PORT | named PORT NET | pos NET: at most 64 of one instance
unfoldable pub conn_of : List Bytes → Option Conn
conn_of [] = None
conn_of (k ∷ []) = when (same k (ascii "star")) star
conn_of (k ∷ a ∷ []) =
    cond (same k (ascii "implicit")) (when (is_name a) (implicit a))
    (cond (same k (ascii "pos")) (when (is_net a) (pos a)) None)
conn_of (k ∷ a ∷ b ∷ []) = when (same k (ascii "named") && (is_name a && is_net b)) (named a b)
conn_of (k ∷ a ∷ b ∷ e ∷ fs) = None

unfoldable pub conn_line : Job → Bytes → Bytes → Option Read
conn_line j line rest = keyed "conn=" line λ v.
    checks (conn_of (fields v)) (ltb (length (this_inst j).conns) most_conns) any_value λ c.
    on due_insts (with_modules j (on_last (λ m. with_insts m (on_last (add_conn c) m.insts)) j.modules)) rest

-- ---- end=
unfoldable pub end_line : Job → Bytes → Bytes → Option Read
end_line j line rest = when (same line (ascii "end=")) (on due_nothing j rest)

-- ---- the kinds that are due
abbrev pub kinds_due : Due → List (Job → Bytes → Bytes → Option Read)
kinds_due due_top = top_line ∷ []
kinds_due due_override = override_line ∷ []
kinds_due due_start = start_line ∷ []
kinds_due due_file = file_line ∷ []
kinds_due (due_bytes p) = bytes_line p ∷ []
kinds_due due_more = file_line ∷ module_line ∷ []
kinds_due (due_style n) = style_line n ∷ []
kinds_due due_ports = port_line ∷ decl_line ∷ inst_line ∷ module_line ∷ end_line ∷ []
kinds_due due_decls = decl_line ∷ inst_line ∷ module_line ∷ end_line ∷ []
kinds_due due_insts = conn_line ∷ inst_line ∷ module_line ∷ end_line ∷ []
kinds_due due_nothing = []

-- what the first of the kinds says that has the line's key; a line of no kind that is due is refused
abbrev pub or_else : Option Read → Read → Read
or_else None r = r
or_else (Some r) r' = r

abbrev pub first_of : List (Job → Bytes → Bytes → Option Read) → Job → Bytes → Bytes → Read
first_of [] j line rest = refuse 4
first_of (k ∷ ks) j line rest = or_else (k j line rest) (first_of ks j line rest)

unfoldable pub read_line : Due → Job → Bytes → Bytes → Read
read_line due j line rest = first_of (kinds_due due) j line rest
