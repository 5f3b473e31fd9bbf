-- The lines of a part of the job, and what a module's part of ports, of declarations and of instances lists.
-- A line that is none of the kind is passed over: an accepted job has none.
-- Assumes nothing.
use Rattle.std.specs.Prelude.{ℕ, cond, List, [], ◌∷◌, eqb, Option, None, Some}
use Rattle.text.specs.Ascii.{Bytes, byte}
use Rattle.fields.specs.Fields.{ansi}
use Rattle.joblines.specs.Job.{Port, Decl, Conn, Inst}
use Rattle.joblines.specs.Lines.{keyed, fields, port_of, decl_of, inst_of, conn_of}

-- the lines that end in LF
abbrev pub onto_first : ℕ → List Bytes → List Bytes
onto_first x [] = []
onto_first x (l ∷ ls) = (x ∷ l) ∷ ls

unfoldable pub lines_in : Bytes → List Bytes
lines_in [] = []
lines_in (x ∷ xs) = cond (eqb x (byte "\n")) ([] ∷ lines_in xs) (onto_first x (lines_in xs))

-- what a line is, by its key and its form
abbrev pub formed : {A : Type 0} → Option (Option A) → Option A
formed None = None
formed (Some o) = o

unfoldable pub port_here : Bytes → Option Port
port_here line = formed (keyed "port=" line λ v. port_of ansi (fields v))

unfoldable pub decl_here : Bytes → Option Decl
decl_here line = formed (keyed "decl=" line λ v. decl_of (fields v))

unfoldable pub inst_here : Bytes → Option Inst
inst_here line = formed (keyed "inst=" line λ v. inst_of (fields v))

unfoldable pub conn_here : Bytes → Option Conn
conn_here line = formed (keyed "conn=" line λ v. conn_of (fields v))

-- each line's value, in order
abbrev pub with_some : {A : Type 0} → Option A → List A → List A
with_some None xs = xs
with_some (Some a) xs = a ∷ xs

unfoldable pub gather : {A : Type 0} → (Bytes → Option A) → List Bytes → List A
gather f [] = []
gather f (l ∷ ls) = with_some (f l) (gather f ls)

abbrev pub ports_in : Bytes → List Port
ports_in s = gather port_here (lines_in s)

abbrev pub decls_in : Bytes → List Decl
decls_in s = gather decl_here (lines_in s)

-- the connections up to the next instance
abbrev pub conns_step : Option Inst → Option Conn → List Conn → List Conn
conns_step (Some i) c cs = []
conns_step None None cs = cs
conns_step None (Some c) cs = c ∷ cs

unfoldable pub conns_of : List Bytes → List Conn
conns_of [] = []
conns_of (l ∷ ls) = conns_step (inst_here l) (conn_here l) (conns_of ls)

-- an instance has the connections of the lines that follow it
abbrev pub with_conns : Inst → List Conn → Inst
with_conns i cs = record { dims = i.dims; name = i.name; type = i.type; conns = cs }

abbrev pub insts_step : Option Inst → List Conn → List Inst → List Inst
insts_step None cs is = is
insts_step (Some i) cs is = with_conns i cs ∷ is

unfoldable pub insts_of : List Bytes → List Inst
insts_of [] = []
insts_of (l ∷ ls) = insts_step (inst_here l) (conns_of ls) (insts_of ls)

abbrev pub conns_in : Bytes → List Conn
conns_in s = conns_of (lines_in s)

abbrev pub insts_in : Bytes → List Inst
insts_in s = insts_of (lines_in s)
