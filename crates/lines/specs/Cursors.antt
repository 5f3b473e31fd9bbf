-- What a step along the lines of a module comes to: the lines from `at` up to `end` list what the step says, and then what the lines from
-- `next` on list. A part of the job is where it begins and its length.
-- Assumes nothing.
use Rattle.std.specs.Prelude.{Option, Some, None}
use Rattle.std.specs.Prelude.{ℕ, ◌+◌, ◌-◌, ◌≤◌, ◌<◌, ◌≡◌, List, [], ◌∷◌, length, take, drop}
use Rattle.text.specs.Ascii.{Bytes}
use Rattle.fields.specs.Meant.{dims_is, dir_is, kind_is}
use Rattle.fields.specs.declared.Dims.{Dims}
use Rattle.joblines.specs.Job.{Port, Decl, Conn, star, implicit, named, pos, Inst}
use Rattle.joblines.specs.Sections.{lines_in, ports_in, decls_in, conns_in, insts_in}
use Rattle.joblines.specs.Scanned.{Whole}
use Rattle.joblines.specs.declared.form.ConnForm.{ConnForm}
use Rattle.joblines.specs.declared.form.ConnForm.TheVariants as form
use Rattle.jobindex.specs.Index.{bytes_at, section}
use Rattle.jobindex.specs.declared.Span.{Span}
use Rattle.lines.specs.declared.PortAt.{PortAt}
use Rattle.lines.specs.declared.DeclAt.{DeclAt}
use Rattle.lines.specs.declared.InstAt.{InstAt}
use Rattle.lines.specs.declared.ConnAt.{ConnAt}
use Rattle.lines.specs.declared.ConnAt.TheVariants as conn

-- the bytes of a part of the job
abbrev pub spanned : Bytes → Span → Bytes
spanned job s = bytes_at job s.at s.len

-- ---- the line from `at` on: its LF is at r, and r is not before `end` where there is none
pub record Cut (job : Bytes) (at end r : ℕ) : Type 0 where
  pub none : end ≤ r → lines_in (section job at end) ≡ []
  pub from : r < end → at ≤ r
  pub there : r < end → r < length job
  pub line : r < end → lines_in (section job at end) ≡ section job at r ∷ lines_in (section job (r + 1) end)
  pub whole : r < end → Whole (section job at (r + 1))

-- the LF of the line from `at` on is at e, before `end`
pub record LineAt (job : Bytes) (at end e : ℕ) : Type 0 where
  pub before : e < end
  pub cut : Cut job at end e

abbrev pub LineFound : Bytes → ℕ → ℕ → Option ℕ → Type 0
LineFound job at end None = lines_in (section job at end) ≡ []
LineFound job at end (Some e) = LineAt job at end e

-- ---- a step from `at` to `next`: over whole lines, inside the job
pub record Stepped (job : Bytes) (at end next : ℕ) : Type 0 where
  pub further : at < next
  pub within : next ≤ end
  pub inside : next ≤ length job
  pub whole : Whole (section job at next)

-- ---- ports
abbrev pub ports_left : Bytes → ℕ → Option PortAt → List Port
ports_left job end None = []
ports_left job end (Some r) = record { dir = dir_is r.dir; name = spanned job r.name } ∷ ports_in (section job r.next end)

abbrev pub PortOn : Bytes → ℕ → ℕ → Option PortAt → Type 0
PortOn job at end None = Unit {0}
PortOn job at end (Some r) = Stepped job at end r.next

pub record PortSeen (job : Bytes) (at end : ℕ) (r : Option PortAt) : Type 0 where
  pub says : ports_left job end r ≡ ports_in (section job at end)
  pub goes : PortOn job at end r

-- ---- declarations
abbrev pub decls_left : Bytes → ℕ → Option DeclAt → List Decl
decls_left job end None = []
decls_left job end (Some r) = record { kind = kind_is r.kind; dims = dims_is r.dims; name = spanned job r.name } ∷ decls_in (section job r.next end)

abbrev pub DeclOn : Bytes → ℕ → ℕ → Option DeclAt → Type 0
DeclOn job at end None = Unit {0}
DeclOn job at end (Some r) = Stepped job at end r.next

pub record DeclSeen (job : Bytes) (at end : ℕ) (r : Option DeclAt) : Type 0 where
  pub says : decls_left job end r ≡ decls_in (section job at end)
  pub goes : DeclOn job at end r

-- ---- instances; the connections are those of the lines that follow
abbrev pub inst_is : Bytes → ℕ → Dims → Span → Span → ℕ → Inst
inst_is job end d n t next = record { dims = dims_is d; name = spanned job n; type = spanned job t; conns = conns_in (section job next end) }

abbrev pub insts_left : Bytes → ℕ → Option InstAt → List Inst
insts_left job end None = []
insts_left job end (Some r) = inst_is job end r.dims r.name r.kind r.next ∷ insts_in (section job r.next end)

abbrev pub InstOn : Bytes → ℕ → ℕ → Option InstAt → Type 0
InstOn job at end None = Unit {0}
InstOn job at end (Some r) = Stepped job at end r.next

pub record InstSeen (job : Bytes) (at end : ℕ) (r : Option InstAt) : Type 0 where
  pub says : insts_left job end r ≡ insts_in (section job at end)
  pub goes : InstOn job at end r

-- ---- connections, up to the next instance
abbrev pub conns_left : Bytes → ℕ → Option ConnAt → List Conn
conns_left job end None = []
conns_left job end (Some (conn.Star next)) = star ∷ conns_in (section job next end)
conns_left job end (Some (conn.Implicit p next)) = implicit (spanned job p) ∷ conns_in (section job next end)
conns_left job end (Some (conn.Named p n next)) = named (spanned job p) (spanned job n) ∷ conns_in (section job next end)
conns_left job end (Some (conn.Pos n next)) = pos (spanned job n) ∷ conns_in (section job next end)

abbrev pub ConnOn : Bytes → ℕ → ℕ → Option ConnAt → Type 0
ConnOn job at end None = Unit {0}
ConnOn job at end (Some (conn.Star next)) = Stepped job at end next
ConnOn job at end (Some (conn.Implicit p next)) = Stepped job at end next
ConnOn job at end (Some (conn.Named p n next)) = Stepped job at end next
ConnOn job at end (Some (conn.Pos n next)) = Stepped job at end next

pub record ConnSeen (job : Bytes) (at end : ℕ) (r : Option ConnAt) : Type 0 where
  pub says : conns_left job end r ≡ conns_in (section job at end)
  pub goes : ConnOn job at end r

-- ---- a part of a line's value v that ends at e of the job: from n on, `len` bytes or all that are there
abbrev pub span_in : Bytes → ℕ → ℕ → ℕ → Span
span_in v e n len = record { at = e - length (drop n v); len = length (take len (drop n v)) }

-- a connection with its parts placed so
abbrev pub conn_placed : Bytes → ℕ → ConnForm → ℕ → ConnAt
conn_placed v e form.Star next = conn.Star next
conn_placed v e (form.Implicit p) next = conn.Implicit (span_in v e p (length v)) next
conn_placed v e (form.Named p l n) next = conn.Named (span_in v e p l) (span_in v e n (length v)) next
conn_placed v e (form.Pos n) next = conn.Pos (span_in v e n (length v)) next
