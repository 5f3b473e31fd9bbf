-- Worked examples of the definitions on the text of jobs, each computed.
-- Assumes nothing.
use Rattle.std.specs.Prelude.{ℕ, zero, suc, ◌≡◌, refl, false, Option, None, Some, option_map}
use Prim.Native.String.{String, ◌++◌}
use mathlib.Core.List.{List, [], ◌∷◌, flat_map}
use Rattle.text.specs.Ascii.{Bytes, ascii, byte}
use Rattle.text.specs.Compare.{same}
use Rattle.text.specs.Scan.{any, split_at}
use Rattle.fields.specs.Fields.{empty}
use Rattle.joblines.specs.Job.{Inst, Module}
use Rattle.joblines.specs.Parse.{Parsed, accepted, refused}
use Rattle.joblines.specs.Examples.{run}
use Rattle.design.specs.Lists.{on_some, first, those, add_new, add_all}
use Rattle.design.specs.Lookup.{module_named, instance_named, module_at}
use Rattle.design.specs.Search.{Search, among_instances, search_from, search_type}
use Rattle.design.specs.Ports.{port_order, directed, output_ports, input_ports, losable}
use Rattle.design.specs.Connections.{decided, output_actual}
use Rattle.design.specs.Paths.{element_path, retained_path, parts, filled_parts}

-- ---- the module lines of a job, as text

abbrev modules_of : Parsed → List Module
modules_of (accepted j) = j.modules
modules_of (refused x n) = []

-- the modules of the job that has these module lines; its top is `top`
unfoldable pub design : String → List Module
unfolding run
design s = modules_of (run ("top=top\noverride=\nstart=p\nfile=p\nbytes=0\n\n" ++ s ++ "end=\n"))

-- names with a space between them
unfoldable pub names : String → List Bytes
unfolding split_at
names s = split_at (byte " ") (ascii s)

-- the design's module of a name
unfoldable pub the : List Module → String → Module
unfolding first same
the d n = on_some (module_named d (ascii n)) (record { name = []; style = empty; ports = []; decls = []; insts = [] }) λ m. m

-- ---- ports and losable names

-- the header's order, the output and the non-output ports, the losable names of the design's module of a name
unfoldable pub order_of : String → String → List Bytes
unfolding the design
order_of s n = port_order (the (design s) n)

unfoldable pub outputs_of : String → String → List Bytes
unfolding the design directed flat_map those add_all add_new any same
outputs_of s n = output_ports (the (design s) n)

unfoldable pub inputs_of : String → String → List Bytes
unfolding the design directed flat_map those
inputs_of s n = input_ports (the (design s) n)

unfoldable pub losable_of : String → String → List Bytes
unfolding the design directed flat_map those add_all add_new any same
losable_of s n = losable (the (design s) n)

abbrev marked : String
marked = "module=top\nstyle=empty\ninst=0 u1 core\nmodule=core\nstyle=ansi\nport=in clk\nport=out q\ndecl=net 0 w\ndecl=odd 0 r\n"

-- the worked example of "Marked runs"
marked_core : losable_of marked "core" ≡ names "q w"
unfolding names losable_of
marked_core = refl

-- no direction yet: an input; a direction is taken over by `none`; a doubled header name stands there twice
abbrev ansi_lines : String
ansi_lines = "module=top\nstyle=ansi\nport=none a\nport=out q\nport=none r\nport=inout b\nport=none c\nport=out q\n"

ansi_outputs : outputs_of ansi_lines "top" ≡ names "q r q"
unfolding names outputs_of
ansi_outputs = refl

ansi_inputs : inputs_of ansi_lines "top" ≡ names "a b c"
unfolding names inputs_of
ansi_inputs = refl

-- header names of style nonansi give only the order: `x` is no port, so its net is lost
abbrev nonansi_lines : String
nonansi_lines = "module=top\nstyle=nonansi\nport=none c\nport=none x\nport=none q\ndecl=out 0 q\ndecl=net 0 x\ndecl=in 0 c\ndecl=net 0 c\n"

nonansi_order : order_of nonansi_lines "top" ≡ names "c x q"
unfolding names order_of
nonansi_order = refl

nonansi_losable : losable_of nonansi_lines "top" ≡ names "q x"
unfolding names losable_of
nonansi_losable = refl

-- dimensions: an output port is lost with them, a net or a variable is not; a real, string, event or chandle never is
abbrev dims_lines : String
dims_lines = "module=top\nstyle=empty\ndecl=data 1 a\ndecl=out 1 q\ndecl=net 1 n\ndecl=odd 0 r\ndecl=data 0 d\n"

dims_losable : losable_of dims_lines "top" ≡ names "q d"
unfolding names losable_of
dims_losable = refl

-- a name that is an output port and a non-output port too is not lost; a body port that the header has is not added
abbrev both_lines : String
both_lines = "module=top\nstyle=ansi\nport=out q\nport=out p\ndecl=out 0 p\ndecl=out 0 r\ndecl=inout 0 q\n"

both_outputs : outputs_of both_lines "top" ≡ names "q p r"
unfolding names outputs_of
both_outputs = refl

both_losable : losable_of both_lines "top" ≡ names "p r"
unfolding names losable_of
both_losable = refl

-- ---- connections

-- the net of a port of the top's instance `u`, whose module has the header a, b, c; the lines are its connections
unfoldable pub actual : String → String → Option (Option Bytes)
unfolding the design first decided any same
actual conns port =
    let d = design ("module=top\nstyle=empty\ninst=0 u sub\n" ++ conns ++ "module=sub\nstyle=ansi\nport=out a\nport=out b\nport=out c\n") in
    option_map (λ (i : Inst). output_actual i (the d "sub") (ascii port)) (instance_named (the d "top") (ascii "u"))

by_star : actual "conn=star\n" "a" ≡ Some (Some (ascii "a"))
unfolding actual
by_star = refl

by_nothing : actual "" "a" ≡ Some None
unfolding actual
by_nothing = refl

by_implicit : actual "conn=implicit a\n" "a" ≡ Some (Some (ascii "a"))
unfolding actual
by_implicit = refl

-- the first one decides
by_name : actual "conn=named a x\nconn=named a y\n" "a" ≡ Some (Some (ascii "x"))
unfolding actual
by_name = refl

-- not a plain identifier: it decides, also beside `star`
by_expression : actual "conn=star\nconn=named a -\nconn=named a y\n" "a" ≡ Some None
unfolding actual
by_expression = refl

-- `star` comes last
star_last : actual "conn=star\nconn=named a x\n" "a" ≡ Some (Some (ascii "x"))
unfolding actual
star_last = refl

-- `pos` counts all connections before it
by_place : actual "conn=star\nconn=named a x\nconn=pos y\n" "c" ≡ Some (Some (ascii "y"))
unfolding actual
by_place = refl

-- past the header it is no port's, not that of the empty name either
past_header : actual "conn=pos x\nconn=pos x\nconn=pos x\nconn=pos y\n" "" ≡ Some None
unfolding actual
past_header = refl

-- ---- lookups

abbrev tree : String
tree = "module=top\nstyle=empty\ninst=0 s mid\ninst=0 k away\nmodule=mid\nstyle=empty\ninst=1 u1 core\nmodule=core\nstyle=empty\n"

-- the name of the module that instance names lead to, from the top
unfoldable pub found : String → List Bytes → Option Bytes
unfolding the design first same module_at
found s ns = let d = design s in option_map (λ (m : Module). m.name) (module_at d (the d "top") ns)

at_top : found tree [] ≡ Some (ascii "top")
unfolding found
at_top = refl

-- through an instance with dimensions
through_array : found tree (names "s u1") ≡ Some (ascii "core")
unfolding found names
through_array = refl

-- the module is not listed; the instance is not there
unlisted : found tree (names "k") ≡ None
unfolding found names
unlisted = refl

not_there : found tree (names "s u2") ≡ None
unfolding found names
not_there = refl

-- ---- the type search

-- its path and its calls, from the top
unfoldable pub searched : String → String → Search
unfolding the design first same search_from among_instances
searched s type = let d = design s in search_type d (the d "top") (ascii type)

search_core : searched tree "core" ≡ record { found = Some (names "s u1"); calls = 2 }
unfolding searched names
search_core = refl

-- a type is found also where its module is not listed; what is below an instance comes before the next instance
search_away : searched tree "away" ≡ record { found = Some (names "k"); calls = 3 }
unfolding searched names
search_away = refl

search_none : searched tree "top" ≡ record { found = None; calls = 3 }
unfolding searched
search_none = refl

-- modules `m`, `mm`, `mmm`, .., each with one instance `u` of the next
unfoldable letters : ℕ → Bytes
letters zero = []
letters (suc n) = byte "m" ∷ letters n

unfoldable link : ℕ → Module
link n = record { name = letters n; style = empty; ports = []; decls = []; insts = (record { dims = false; name = ascii "u"; type = letters (suc n); conns = [] }) ∷ [] }

unfoldable links : ℕ → ℕ → List Module
links n zero = []
links n (suc k) = link n ∷ links (suc n) k

-- the search for the type of n letters, which is the type of an instance n - 1 instances down
unfoldable deep : ℕ → Search
unfolding first same search_from among_instances letters link links
deep n = search_type (links 1 40) (link 1) (letters n)

unfoldable us : ℕ → List Bytes
us zero = []
us (suc n) = ascii "u" ∷ us n

-- 33 instances down it is found, 34 not; the call past the last depth is counted
deep_33 : deep 34 ≡ record { found = Some (us 33); calls = 33 }
unfolding deep us
deep_33 = refl

deep_34 : deep 35 ≡ record { found = None; calls = 34 }
unfolding deep
deep_34 = refl

-- ---- paths

path_top : element_path [] (ascii "s/u1") ≡ ascii "s.u1"
unfolding flat_map
path_top = refl

path_scope : element_path (names "a b") (ascii "s/u1") ≡ ascii "a.b.s.u1"
unfolding names flat_map
path_scope = refl

-- an element that is empty altogether adds no dot; empty parts stay
path_empty : element_path (names "a b") [] ≡ ascii "a.b"
unfolding names flat_map
path_empty = refl

path_parts : element_path (names "a") (ascii "s//u1") ≡ ascii "a.s..u1"
unfolding names flat_map
path_parts = refl

-- the empty entry: the top's own path at the top, no module's path under a scope
retained_top : retained_path [] [] ≡ []
retained_top = refl

retained_empty : retained_path (names "a") [] ≡ ascii "a."
unfolding names flat_map
retained_empty = refl

-- the parts of an element for isolation, and for the walk
all_parts : parts (ascii "s//u1") ≡ ascii "s" ∷ [] ∷ ascii "u1" ∷ []
unfolding split_at
all_parts = refl

filled_parts_lem : filled_parts (ascii "s//u1") ≡ names "s u1"
unfolding split_at those same names
filled_parts_lem = refl

no_parts : filled_parts [] ≡ []
unfolding split_at those same
no_parts = refl
