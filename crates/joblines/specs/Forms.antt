-- What the answers of the code say. A form has the offsets of its fields in the line's value v.
-- Assumes nothing.
use Rattle.std.specs.Prelude.{ℕ, ◌+◌, ◌≤◌, Bool, true, false, [], length, take, drop, ltb, Option, None, Some, Result, Ok, Err}
use Rattle.text.specs.Ascii.{Bytes}
use Rattle.fields.specs.Fields.{Style}
use Rattle.fields.specs.Limits.{most_ports, most_decls, most_conns}
use Rattle.fields.specs.Meant.{dims_is, dir_is, kind_is}
use Rattle.joblines.specs.Job.{Port, Decl, Conn, star, implicit, named, pos, Inst}
use Rattle.joblines.specs.Lines.{Checked, bad, good, check, any_value, keyed, fields, port_of, decl_of, conn_of}
use Rattle.joblines.specs.declared.Refusal.{Refusal}
use Rattle.joblines.specs.declared.Refusal.TheVariants as refusal
use Rattle.joblines.specs.declared.form.PortForm.{PortForm}
use Rattle.joblines.specs.declared.form.DeclForm.{DeclForm}
use Rattle.joblines.specs.declared.form.InstForm.{InstForm}
use Rattle.joblines.specs.declared.form.ConnForm.{ConnForm}
use Rattle.joblines.specs.declared.form.ConnForm.TheVariants as conn

-- ---- forms

abbrev pub port_meant : Bytes → Option PortForm → Option Port
port_meant v None = None
port_meant v (Some f) = Some (record { dir = dir_is f.dir; name = drop f.name v })

abbrev pub decl_meant : Bytes → Option DeclForm → Option Decl
decl_meant v None = None
decl_meant v (Some f) = Some (record { kind = kind_is f.kind; dims = dims_is f.dims; name = drop f.name v })

abbrev pub inst_meant : Bytes → Option InstForm → Option Inst
inst_meant v None = None
inst_meant v (Some f) = Some (record { dims = dims_is f.dims; name = take f.len (drop f.name v); type = drop f.kind v; conns = [] })

-- the name lies in the value
abbrev pub InstIn : Bytes → Option InstForm → Type 0
InstIn v None = Unit {0}
InstIn v (Some f) = f.name + f.len ≤ length v

abbrev pub conn_is : Bytes → ConnForm → Conn
conn_is v conn.Star = star
conn_is v (conn.Implicit p) = implicit (drop p v)
conn_is v (conn.Named p l n) = named (take l (drop p v)) (drop n v)
conn_is v (conn.Pos n) = pos (drop n v)

abbrev pub conn_meant : Bytes → Option ConnForm → Option Conn
conn_meant v None = None
conn_meant v (Some f) = Some (conn_is v f)

-- ---- lines, checked

-- beside the number of lines of the kind that there are
unfoldable pub port_read : Style → ℕ → Bytes → Option (Checked Port)
port_read s n line = keyed "port=" line λ v. check (port_of s (fields v)) (ltb n most_ports) any_value

unfoldable pub decl_read : ℕ → Bytes → Option (Checked Decl)
decl_read n line = keyed "decl=" line λ v. check (decl_of (fields v)) (ltb n most_decls) any_value

unfoldable pub conn_read : ℕ → Bytes → Option (Checked Conn)
conn_read n line = keyed "conn=" line λ v. check (conn_of (fields v)) (ltb n most_conns) any_value

-- the number of a check
abbrev pub number_of : Refusal → ℕ
number_of refusal.TooLong = 2
number_of refusal.NotAscii = 3
number_of refusal.Malformed = 4
number_of refusal.OverLimit = 5
number_of refusal.NotNew = 6
number_of refusal.NotListed = 7

-- what a line comes to, with the refusal's number
abbrev pub numbered : Result Bool Refusal → Result Bool ℕ
numbered (Ok b) = Ok b
numbered (Err r) = Err (number_of r)

-- a line that is another kind's, refused by a number, or good
abbrev pub verdict : {A : Type 0} → Option (Checked A) → Result Bool ℕ
verdict None = Ok false
verdict (Some (bad n)) = Err n
verdict (Some (good a)) = Ok true
