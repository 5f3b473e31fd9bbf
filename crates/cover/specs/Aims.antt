-- The ports that a strategy's elements aim at, by the module lines. Assumes nothing.
use Rattle.std.specs.Prelude.{cond, List, [], ◌∷◌, ◌++◌, map, Option, None, Some}
use Rattle.text.specs.Ascii.{Bytes, ascii, byte}
use Rattle.text.specs.Scan.{any, is}
use Rattle.joblines.specs.Job.{Conn, Module}
use Rattle.jobindex.specs.declared.Span.{Span as Part}
use Rattle.lines.specs.Cursors.{spanned}
use Rattle.design.specs.Lists.{on_some}
use Rattle.design.specs.Ports.{output_ports}
use Rattle.design.specs.Paths.{parts}
use Rattle.model.specs.Scope.{up}
use Rattle.actual.specs.Nets.{actual_of}
use Rattle.texts.specs.Isolation.{last_part, front_parts, below_parent}
use Rattle.targets.specs.Instance.{instance_at}
use Rattle.keep.specs.Gains.{Aim}

-- a port p of the instance that the parts lead to: its net below the scope
abbrev pub net_below : List Bytes → Option Bytes → Option Bytes
net_below ps None = None
net_below ps (Some n) = Some (below_parent (front_parts ps) n)

abbrev pub port_aim : List Bytes → Bytes → List Conn → Module → Bytes → Aim
port_aim ps key conns sub p = record { key = key; net = net_below ps (actual_of conns sub p) }

-- these ports of the instance that an element is
abbrev pub output_aim : Bytes → List Conn → Module → Bytes → Aim
output_aim e conns sub p = port_aim (parts e) (e ++ (ascii "/" ++ p)) conns sub p

-- the same of a port's name in the job
unfoldable pub part_aim : Bytes → Bytes → List Conn → Module → Part → Aim
part_aim job e conns sub n = output_aim e conns sub (spanned job n)

abbrev pub port_aims : Bytes → List Conn → Module → List Bytes → List Aim
port_aims e conns sub ps = map (output_aim e conns sub) ps

-- all output ports of the instance that an element is
abbrev pub output_aims : List Module → Module → Bytes → List Aim
output_aims d m e = on_some (instance_at d m (parts e)) [] λ x. port_aims e x.conns x.sub (output_ports x.sub)

-- the port behind the last slash
abbrev pub slash_aims : List Module → Module → Bytes → List Aim
slash_aims d m e = on_some (instance_at d m (parts (up e))) [] λ x. port_aim (parts (up e)) e x.conns x.sub (last_part (parts e)) ∷ []

-- "An element with `/` is an instance and a port."
abbrev pub element_aims : List Module → Module → Bytes → List Aim
element_aims d m e = cond (any (is (byte "/")) e) (slash_aims d m e) (output_aims d m e)
