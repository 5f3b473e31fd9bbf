-- The net of the parent that an instance's port is connected to, if it is a plain identifier (the Rust's `output_actual`).
-- Assumes nothing.
use Rattle.std.specs.Prelude.{Bool, true, false, cond, Option, None, Some}
use mathlib.Core.List.{List, [], ◌∷◌, tail}
use Rattle.text.specs.Ascii.{Bytes, ascii}
use Rattle.text.specs.Compare.{same}
use Rattle.text.specs.Scan.{any}
use Rattle.joblines.specs.Job.{Conn, Inst, Module}
use Rattle.joblines.specs.Lines.{when}
use Rattle.design.specs.Lists.{on_some}
use Rattle.design.specs.Ports.{port_order}

-- "NET `-` means not a plain identifier"
abbrev pub plain : Bytes → Option Bytes
plain net = cond (same net (ascii "-")) None (Some net)

-- the port is the first of these
abbrev pub is_first : Bytes → List Bytes → Bool
is_first port [] = false
is_first port (n ∷ ns) = same n port

-- what a connection says of the port: nothing where it is another port's, else its net. `order` has the header's names from the one on that
-- stands at the connection's own place: "`pos` counts all connections before it"
abbrev pub says_of : Bytes → List Bytes → Conn → Option (Option Bytes)
says_of port order Conn.star = None
says_of port order (Conn.implicit p) = when (same p port) (Some port)
says_of port order (Conn.named p net) = when (same p port) (plain net)
says_of port order (Conn.pos net) = when (is_first port order) (plain net)

abbrev pub is_star : Conn → Bool
is_star Conn.star = true
is_star (Conn.implicit p) = false
is_star (Conn.named p net) = false
is_star (Conn.pos net) = false

-- the first connection of the port decides, `otherwise` where there is none
unfoldable pub decided : Bytes → Option Bytes → List Bytes → List Conn → Option Bytes
decided port otherwise order [] = otherwise
decided port otherwise order (c ∷ cs) = on_some (says_of port order c) (decided port otherwise (tail order) cs) λ net. net

-- `star` is looked at last: it connects the port to the net of its own name
abbrev pub output_actual : Inst → Module → Bytes → Option Bytes
output_actual i sub port = decided port (when (any is_star i.conns) port) (port_order sub) i.conns
