-- The supply nets, in the Rust's order, and what glue and package have for each.
-- Assumes nothing.
use Rattle.std.specs.Prelude.{cond, not}
use mathlib.Core.List.{List, [], ◌∷◌, ◌++◌, map, flat_map}
use Rattle.text.specs.Ascii.{Bytes}
use Rattle.text.specs.Compare.{same}
use Rattle.out.specs.Bytewise.{dotted}
use Rattle.out.specs.Fill.{format2, format4}
use Rattle.out.specs.Items.{each}
use Rattle.design.specs.Lists.{those, add_all}
use Rattle.model.specs.Records.{SupplyPort, Connection, Switch, Model}
use Rattle.texts.specs.Setting.{Setting, slash_path}

-- the net that a port is connected to: the last connection counts; the port itself where there is none
unfoldable pub net_of : List Connection → Bytes → Bytes → Bytes
net_of [] port net = net
net_of (c ∷ cs) port net = net_of cs port (cond (same c.port port) c.net net)

abbrev pub port_nets : Model → List Bytes
port_nets m = map (λ (p : SupplyPort). net_of m.connections p.name p.name) m.ports

-- "Switch output ports are supply objects too": both nets of each switch, where they have a name
abbrev pub switch_nets : Model → List Bytes
switch_nets m = those (λ n. not (same n [])) (flat_map (λ (s : Switch). s.input.net ∷ s.output.net ∷ []) m.switches)

-- created nets, nets of ports, nets of switches; each one time
unfoldable pub supply_nets : Model → List Bytes
supply_nets m = add_all m.nets (port_nets m ++ switch_nets m)

-- ---- the glue: a net's state and messages. {0} the net, {1} its path
abbrev pub net_block : Setting → Bytes → Bytes
net_block s n =
    format2 "  logic upf__{a} = 1'b0;\n  real upf__{a}_v = 0.0;\n  always @(upf__{a}) begin\n    if (upf__{a} === 1'b1) $display(\"[UPF] Time: %0t, Supply net '{1}' toggled to '{{FULL_ON %0.2f V}}'\", $time, upf__{a}_v);\n    else if (upf__{a} === 1'b0) $display(\"[UPF] Time: %0t, Supply net '{1}' toggled to '{{OFF 0 V}}'\", $time);\n    else $display(\"[UPF] Time: %0t, Supply net '{1}' toggled to '{{UNDETERMINED}}'\", $time);\n  end\n"
    n (slash_path s n)

abbrev pub net_blocks : Setting → Bytes
net_blocks s = each (net_block s) (supply_nets s.records)

-- ---- the package: each net by its three names. {0} the net, {1} its path, {2} its path with dots and without the slash in front, {3} the top

-- the path with dots: the slash in front goes
abbrev pub unrooted : Bytes → Bytes
unrooted [] = []
unrooted (b ∷ p) = p

abbrev pub dot_path : Setting → Bytes → Bytes
dot_path s n = dotted (unrooted (slash_path s n))

abbrev pub apply_case : Setting → Bytes → Bytes
apply_case s n =
    format4 "      \"{B}\", \"{C}\", \"{A}\": begin\n        {3}.upf__{a}_v = on ? v : 0.0;\n        {3}.upf__{a} = on ? 1'b1 : 1'b0;\n      end\n"
    n (slash_path s n) (dot_path s n) s.top

abbrev pub state_case : Setting → Bytes → Bytes
state_case s n = format4 "      \"{B}\", \"{C}\", \"{A}\": return ({3}.upf__{a} === 1'b1) ? 1 : 0;\n" n (slash_path s n) (dot_path s n) s.top

abbrev pub voltage_case : Setting → Bytes → Bytes
voltage_case s n = format4 "      \"{B}\", \"{C}\", \"{A}\": return {3}.upf__{a}_v;\n" n (slash_path s n) (dot_path s n) s.top

abbrev pub cases : (Setting → Bytes → Bytes) → Setting → Bytes
cases f s = each (f s) (supply_nets s.records)
