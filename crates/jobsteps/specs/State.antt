-- The state of the reading: what the code's numbers stand for between two lines, and what holds of them.
-- Assumes nothing.
use Rattle.std.specs.Prelude.{ℕ, ◌+◌, ◌^◌, ◌≤◌, ◌<◌, ◌≡◌, List, [], ◌∷◌, ◌++◌, map, length, drop, Result, Ok, Err}
use Rattle.text.specs.Ascii.{Bytes, byte}
use Rattle.text.specs.Scan.{up_to}
use Rattle.joblines.specs.Job.{Inst, Module, Job}
use Rattle.joblines.specs.Lines.{Read, refuse, on, due_top, due_override, due_start, due_file, due_bytes, due_more, due_style, due_ports, due_decls, due_insts, due_nothing, with_modules, last_or, no_inst}
use Rattle.joblines.specs.Lines as Lines
use Rattle.joblines.specs.Sections.{ports_in, decls_in, insts_in}
use Rattle.joblines.specs.Scanned.{Whole}
use Rattle.jobindex.specs.declared.Header.{Header}
use Rattle.jobindex.specs.declared.Open.{Open}
use Rattle.jobsteps.specs.declared.Due.{Due}
use Rattle.jobsteps.specs.declared.Due.TheVariants as due
use Rattle.jobsteps.specs.declared.Step.{Step}
use Rattle.joblines.specs.Forms.{number_of}
use Rattle.joblines.specs.declared.Refusal.{Refusal}
use Rattle.fields.specs.Meant.{style_number}
use Rattle.jobindex.specs.Index.{index_size, bytes_at, section, module_of, inst_at, rows, job_of}

-- ---- what the numbers stand for

abbrev pub due_of : Bytes → Due → Lines.Due
due_of job due.Top = due_top
due_of job due.Override = due_override
due_of job due.Start = due_start
due_of job due.File = due_file
due_of job (due.Bytes a l) = due_bytes (bytes_at job a l)
due_of job due.More = due_more
due_of job (due.Style a l) = due_style (bytes_at job a l)
due_of job due.Ports = due_ports
due_of job due.Decls = due_decls
due_of job due.Insts = due_insts
due_of job due.Nothing = due_nothing

-- the module that is being read
abbrev pub open_of : Bytes → Open → Module
open_of job o = module_of job o.name.at o.name.len (style_number o.style) o.ports o.decls o.insts o.end

-- the job so far, within a module
abbrev pub job_in : Bytes → List ℕ → Header → Open → Job
job_in job index head o = with_modules (job_of job index head) ((job_of job index head).modules ++ (open_of job o ∷ []))

abbrev pub job_now : Bytes → List ℕ → Due → Header → Open → Job
job_now job index due.Top head o = job_of job index head
job_now job index due.Override head o = job_of job index head
job_now job index due.Start head o = job_of job index head
job_now job index due.File head o = job_of job index head
job_now job index (due.Bytes a l) head o = job_of job index head
job_now job index due.More head o = job_of job index head
job_now job index (due.Style a l) head o = job_of job index head
job_now job index due.Ports head o = job_in job index head o
job_now job index due.Decls head o = job_in job index head o
job_now job index due.Insts head o = job_in job index head o
job_now job index due.Nothing head o = job_of job index head

abbrev pub meant : Bytes → List ℕ → Result Step Refusal → Read
meant job index (Err x) = refuse (number_of x)
meant job index (Ok s) = on (due_of job s.due) (job_now job index s.due s.head s.opened) (drop s.at job)

-- ---- what holds of them

-- a line of the job, from its first byte to its LF
pub record IsLine (job : Bytes) (from end : ℕ) : Type 0 where
  pub ends : end ≡ from + up_to (byte "\n") (drop from job)
  pub inside : end < length job
  pub small : length job ≤ 65536

-- between modules
pub record Outside (job : Bytes) (head : Header) (at : ℕ) : Type 0 where
  pub here : at ≤ length job
  pub files : head.files ≤ 32
  pub modules : head.modules ≤ 128

-- a span whose numbers fit u32
pub record Small (a l : ℕ) : Type 0 where
  pub at_fits : a < 2 ^ 32
  pub len_fits : l < 2 ^ 32

-- within a module: its sections are whole lines up to here, and its lines are counted
pub record Inside (job : Bytes) (index : List ℕ) (head : Header) (o : Open) (at : ℕ) : Type 0 where
  pub here : at ≤ length job
  pub files : head.files ≤ 32
  pub modules : head.modules < 128
  pub name : Small o.name.at o.name.len
  pub ends : o.end ≡ at
  pub ports_first : o.ports ≤ o.decls
  pub decls_next : o.decls ≤ o.insts
  pub insts_last : o.insts ≤ at
  pub ports_whole : Whole (section job o.ports o.decls)
  pub decls_whole : Whole (section job o.decls o.insts)
  pub insts_whole : Whole (section job o.insts at)
  pub ports_count : o.nports ≡ length (ports_in (section job o.ports o.decls))
  pub decls_count : o.ndecls ≡ length (decls_in (section job o.decls o.insts))
  pub insts_few : o.ninsts ≤ 64
  pub insts_names : rows (inst_at job index) o.ninsts ≡ map (λ (i : Inst). i.name) (insts_in (section job o.insts at))
  pub conns_count : o.nconns ≡ length (last_or no_inst (insts_in (section job o.insts at))).conns

pub record BytesDue (job : Bytes) (head : Header) (a l at : ℕ) : Type 0 where
  pub out : Outside job head at
  pub room : head.files < 32
  pub span : Small a l

pub record StyleDue (job : Bytes) (head : Header) (a l at : ℕ) : Type 0 where
  pub out : Outside job head at
  pub room : head.modules < 128
  pub span : Small a l

pub record PortsDue (job : Bytes) (index : List ℕ) (head : Header) (o : Open) (at : ℕ) : Type 0 where
  pub within : Inside job index head o at
  pub decls_here : o.decls ≡ at
  pub insts_here : o.insts ≡ at

pub record DeclsDue (job : Bytes) (index : List ℕ) (head : Header) (o : Open) (at : ℕ) : Type 0 where
  pub within : Inside job index head o at
  pub insts_here : o.insts ≡ at

pub record InstsDue (job : Bytes) (index : List ℕ) (head : Header) (o : Open) (at : ℕ) : Type 0 where
  pub within : Inside job index head o at
  pub some_inst : 1 ≤ o.ninsts

abbrev pub Stands : Bytes → List ℕ → Due → Header → Open → ℕ → Type 0
Stands job index due.Top head o at = Outside job head at
Stands job index due.Override head o at = Outside job head at
Stands job index due.Start head o at = Outside job head at
Stands job index due.File head o at = Outside job head at
Stands job index (due.Bytes a l) head o at = BytesDue job head a l at
Stands job index due.More head o at = Outside job head at
Stands job index (due.Style a l) head o at = StyleDue job head a l at
Stands job index due.Ports head o at = PortsDue job index head o at
Stands job index due.Decls head o at = DeclsDue job index head o at
Stands job index due.Insts head o at = InstsDue job index head o at
Stands job index due.Nothing head o at = Outside job head at

-- a step on is past the line's first byte
abbrev pub StandsOn : Bytes → List ℕ → ℕ → Result Step Refusal → Type 0
StandsOn job index from (Err x) = Unit {0}
StandsOn job index from (Ok s) = (from < s.at) × Stands job index s.due s.head s.opened s.at

-- ---- contracts

abbrev pub line_of : Bytes → ℕ → ℕ → Bytes
line_of job from end = section job from end

-- what a step asks that has no index: a line, and a state that stands so
pub record Alone (job : Bytes) (from end : ℕ) (S : Type 0) : Type 0 where
  pub line : IsLine job from end
  pub stands : S

-- what a step asks: a line, a state that stands so, and room for the index
pub record Asked (job : Bytes) (index : List ℕ) (from end : ℕ) (S : Type 0) : Type 0 where
  pub line : IsLine job from end
  pub stands : S
  pub room : index_size ≤ length index

-- what a step comes to: what the definition reads, a state that stands, and nothing changed behind the index
pub record Stepped (job : Bytes) (index₀ index : List ℕ) (from : ℕ) (read : Read) (r : Result Step Refusal) : Type 0 where
  pub says : meant job index r ≡ read
  pub stands : StandsOn job index from r
  pub long : length index ≡ length index₀
  pub kept : drop index_size index ≡ drop index_size index₀

-- ---- the state after a line that is good

abbrev pub file_on : Bytes → ℕ → ℕ → Header → Open → Step
file_on line from end head o = record { at = end + 1; due = (due.Bytes (from + 5) (length (drop 5 line))); head = head; opened = o }

abbrev pub module_on : Bytes → ℕ → ℕ → Header → Open → Step
module_on line from end head o = record { at = end + 1; due = (due.Style (from + 7) (length (drop 7 line))); head = head; opened = o }

-- the module with one port more, that ends at n
abbrev pub port_more : ℕ → Open → Open
port_more n o =
    record {
      name = o.name;
      style = o.style;
      ports = o.ports;
      decls = n;
      insts = n;
      end = n;
      nports = o.nports + 1;
      ndecls = o.ndecls;
      ninsts = o.ninsts;
      nconns = o.nconns;
    }

abbrev pub decl_more : ℕ → Open → Open
decl_more n o =
    record {
      name = o.name;
      style = o.style;
      ports = o.ports;
      decls = o.decls;
      insts = n;
      end = n;
      nports = o.nports;
      ndecls = o.ndecls + 1;
      ninsts = o.ninsts;
      nconns = o.nconns;
    }

abbrev pub inst_more : ℕ → Open → Open
inst_more n o =
    record {
      name = o.name;
      style = o.style;
      ports = o.ports;
      decls = o.decls;
      insts = o.insts;
      end = n;
      nports = o.nports;
      ndecls = o.ndecls;
      ninsts = o.ninsts + 1;
      nconns = 0;
    }

abbrev pub conn_more : ℕ → Open → Open
conn_more n o =
    record {
      name = o.name;
      style = o.style;
      ports = o.ports;
      decls = o.decls;
      insts = o.insts;
      end = n;
      nports = o.nports;
      ndecls = o.ndecls;
      ninsts = o.ninsts;
      nconns = o.nconns + 1;
    }

abbrev pub port_on : ℕ → Header → Open → Step
port_on end head o = record { at = end + 1; due = due.Ports; head = head; opened = (port_more (end + 1) o) }

abbrev pub decl_on : ℕ → Header → Open → Step
decl_on end head o = record { at = end + 1; due = due.Decls; head = head; opened = (decl_more (end + 1) o) }

abbrev pub inst_on : ℕ → Header → Open → Step
inst_on end head o = record { at = end + 1; due = due.Insts; head = head; opened = (inst_more (end + 1) o) }

abbrev pub conn_on : ℕ → Header → Open → Step
conn_on end head o = record { at = end + 1; due = due.Insts; head = head; opened = (conn_more (end + 1) o) }
