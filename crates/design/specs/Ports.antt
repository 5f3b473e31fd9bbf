-- The ports of a module and the names that it can lose (document 01, "The walk and the glue"; the Rust's `port_order`, `output_ports`, `input_ports`).
-- Assumes nothing.
use Rattle.std.specs.Prelude.{Bool, true, false, cond, not, ◌&&◌}
use mathlib.Core.List.{List, [], ◌∷◌, ◌++◌, map, flat_map}
use Rattle.text.specs.Ascii.{Bytes}
use Rattle.fields.specs.Fields.{Dir, input, Style, Kind}
use Rattle.joblines.specs.Job.{Port, Decl, Module}
use Rattle.joblines.specs.Lines.{is_none}
use Rattle.design.specs.Lists.{those, is_in, add_all}

-- the names of the header, in order: for `pos` connections
abbrev pub port_order : Module → List Bytes
port_order m = map (λ (p : Port). p.name) m.ports

-- ---- directions

-- "a header port with `none` takes the last direction"
abbrev pub taken : Dir → Dir → Dir
taken last dir = cond (is_none dir) last dir

unfoldable pub directed : Dir → List Port → List Port
directed last [] = []
directed last (p ∷ ps) = record { dir = taken last p.dir; name = p.name } ∷ directed (taken last p.dir) ps

-- "In style ansi a header port with `none` takes the last direction; before any it is an input. Header names of style nonansi give only the
-- order and are neither."
abbrev pub header_ports : Style → List Port → List Port
header_ports Style.ansi ps = directed input ps
header_ports Style.nonansi ps = []
header_ports Style.empty ps = []

-- "KIND is .. or a body port's `in`, `out`, `inout`, `ref`": its dimensions are not looked at
abbrev pub body_port : Kind → Bytes → List Port
body_port Kind.net n = []
body_port Kind.variable n = []
body_port Kind.odd n = []
body_port (Kind.body dir) n = record { dir = dir; name = n } ∷ []

abbrev pub body_ports : List Decl → List Port
body_ports ds = flat_map (λ (d : Decl). body_port d.kind d.name) ds

-- ---- output ports, and all others

abbrev pub is_output : Dir → Bool
is_output Dir.input = false
is_output Dir.output = true
is_output Dir.inout = false
is_output Dir.ref = false
is_output Dir.undirected = false

abbrev pub outputs : List Port → List Bytes
outputs ps = map (λ (p : Port). p.name) (those (λ p. is_output p.dir) ps)

abbrev pub others : List Port → List Bytes
others ps = map (λ (p : Port). p.name) (those (λ p. not (is_output p.dir)) ps)

-- "output ports (header or body, any dimension or type)": those of the header as often as they stand there, then those of the body that are new
abbrev pub output_ports : Module → List Bytes
output_ports m = add_all (outputs (header_ports m.style m.ports)) (outputs (body_ports m.decls))

-- the non-output ports, header and body
abbrev pub input_ports : Module → List Bytes
input_ports m = others (header_ports m.style m.ports) ++ others (body_ports m.decls)

-- ---- what can be lost

-- "`net` and `data` names with D 0"
abbrev pub is_signal : Kind → Bool
is_signal Kind.net = true
is_signal Kind.variable = true
is_signal Kind.odd = false
is_signal (Kind.body dir) = false

abbrev pub signals : List Decl → List Bytes
signals ds = map (λ (d : Decl). d.name) (those (λ d. is_signal d.kind && not d.dims) ds)

-- "Losable in a module: output ports (header or body, any dimension or type), and `net` and `data` names with D 0; never a name that is also a
-- non-output port."; "in each module output ports, then declarations"
abbrev pub losable : Module → List Bytes
losable m = those (λ n. not (is_in n (input_ports m))) (output_ports m ++ signals m.decls)
