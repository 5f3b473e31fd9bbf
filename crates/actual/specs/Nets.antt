-- What the answers say of an instance's port.
-- Assumes nothing.
use Rattle.std.specs.Prelude.{ℕ, ◌+◌, ◌≡◌, refl, Bool, true, false, cond, List, Option, None, Some}
use Rattle.text.specs.Ascii.{Bytes}
use Rattle.text.specs.Compare.{same}
use Rattle.text.specs.Scan.{any}
use Rattle.joblines.specs.Job.{Conn, Inst, Module}
use Rattle.joblines.specs.Lines.{when}
use Rattle.jobindex.specs.Index.{num, row_at}
use Rattle.jobindex.specs.declared.Span.{Span}
use Rattle.design.specs.Connections.{plain, is_star, decided, output_actual}
use Rattle.design.specs.Ports.{port_order}
use Rattle.lines.specs.Cursors.{spanned}
use Rattle.lines.specs.declared.ConnAt.{ConnAt}
use Rattle.lines.specs.declared.ConnAt.TheVariants as conn
use Rattle.lines.specs.declared.PortAt.{PortAt}
use Rattle.actual.specs.declared.Net.{Net}
use Rattle.actual.specs.declared.Net.TheVariants as net

-- the net, beside the port's own name
abbrev pub net_is : Bytes → Bytes → Net → Option Bytes
net_is job p net.None = None
net_is job p net.Own = Some p
net_is job p (net.Of s) = Some (spanned job s)

-- the net of a connection that has one, whatever the port's name is
pub record PlainSeen (job : Bytes) (n : Span) (r : Net) : Type 0 where
  pub is : (p : Bytes) → net_is job p r ≡ plain (spanned job n)

-- what is said of the port: nothing, or its net
abbrev pub said_is : Bytes → Bytes → Option Net → Option (Option Bytes)
said_is job p None = None
said_is job p (Some n) = Some (net_is job p n)

-- the connections of an instance decide
abbrev pub actual_of : List Conn → Module → Bytes → Option Bytes
actual_of conns sub p = decided p (when (any is_star conns) p) (port_order sub) conns

pub actual_is : (i : Inst) (sub : Module) (p : Bytes) → actual_of i.conns sub p ≡ output_actual i sub p
actual_is i sub p = refl

-- ---- a connection line
abbrev pub at_end : Option ConnAt → Bool
at_end None = true
at_end (Some (conn.Star next)) = false
at_end (Some (conn.Implicit p next)) = false
at_end (Some (conn.Named p n next)) = false
at_end (Some (conn.Pos n next)) = false

abbrev pub star_at : Option ConnAt → Bool
star_at None = false
star_at (Some (conn.Star next)) = true
star_at (Some (conn.Implicit p next)) = false
star_at (Some (conn.Named p n next)) = false
star_at (Some (conn.Pos n next)) = false

abbrev pub conn_next : Option ConnAt → ℕ → ℕ
conn_next None end = end
conn_next (Some (conn.Star next)) end = next
conn_next (Some (conn.Implicit p next)) end = next
conn_next (Some (conn.Named p n next)) end = next
conn_next (Some (conn.Pos n next)) end = next

-- ---- a port line
abbrev pub port_next : Option PortAt → ℕ → ℕ
port_next None end = end
port_next (Some r) end = r.next

abbrev pub is_first_at : Bytes → Option PortAt → Bytes → Bool
is_first_at job None p = false
is_first_at job (Some r) p = same (spanned job r.name) p

-- what a connection says of the port p; q is the port line at its own place
abbrev pub says_at : Bytes → Option ConnAt → Option PortAt → Bytes → Option (Option Bytes)
says_at job None q p = None
says_at job (Some (conn.Star next)) q p = None
says_at job (Some (conn.Implicit x next)) q p = when (same (spanned job x) p) (Some p)
says_at job (Some (conn.Named x n next)) q p = when (same (spanned job x) p) (plain (spanned job n))
says_at job (Some (conn.Pos n next)) q p = when (is_first_at job q p) (plain (spanned job n))

abbrev pub last_of : Bool → Net
last_of star = cond star net.Own net.None

-- ---- the port lines of module k
abbrev pub ports_from : List ℕ → ℕ → ℕ
ports_from index k = num index (row_at k + 3)

abbrev pub ports_end : List ℕ → ℕ → ℕ
ports_end index k = num index (row_at k + 4)
