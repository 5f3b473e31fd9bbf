-- A job, as it is read: each list in the order of its lines.
-- Assumes nothing.
use Rattle.std.specs.Prelude.{List, [], Bool}
use Rattle.text.specs.Ascii.{Bytes}
use Rattle.fields.specs.Fields.{Dir, Kind, Style}

-- `file=PATH`, `bytes=N` and the N bytes
pub record File : Type 0 where
  pub path : Bytes
  pub body : Bytes

-- `port=DIR NAME`
pub record Port : Type 0 where
  pub dir : Dir
  pub name : Bytes

-- `decl=KIND D NAME`
pub record Decl : Type 0 where
  pub kind : Kind
  pub dims : Bool
  pub name : Bytes

-- `conn=star`, `implicit PORT`, `named PORT NET`, `pos NET`
pub data Conn : Type 0 where
  star : Conn
  implicit : Bytes → Conn
  named : Bytes → Bytes → Conn
  pos : Bytes → Conn

-- `inst=D NAME MODULE` with its `conn=` lines
pub record Inst : Type 0 where
  pub dims : Bool
  pub name : Bytes
  pub type : Bytes
  pub conns : List Conn

-- `module=NAME`, `style=` and the module's lines
pub record Module : Type 0 where
  pub name : Bytes
  pub style : Style
  pub ports : List Port
  pub decls : List Decl
  pub insts : List Inst

pub record Job : Type 0 where
  pub top : Bytes
  pub override : Bytes
  pub start : Bytes
  pub files : List File
  pub modules : List Module

-- before the first line
abbrev pub no_job : Job
no_job = record { top = []; override = []; start = []; files = []; modules = [] }
