-- How the code's numbers, its table and its text stand for what has been gained. Assumes nothing.
use Rattle.std.specs.Prelude.{ℕ, ◌+◌, ◌≤◌, ◌<◌, ◌≡◌, Bool, true, false, cond, List, [], ◌∷◌, eqb, ltb, length, Option, None, Some}
use Rattle.text.specs.Ascii.{Bytes}
use Rattle.out.specs.Emit.{◌▸◌, emit}
use Rattle.out.specs.Items.{each}
use Rattle.texts.specs.Texts.{warning_line}
use Rattle.actual.specs.declared.Net.{Net}
use Rattle.actual.specs.declared.Net.TheVariants as net
use Rattle.jobindex.specs.declared.Span.{Span as Part}
use Rattle.refs.specs.Text.{no_name, text_of}
use Rattle.isolated.specs.Table.{port_put, port_ref, net_ref, kept_in}
use Rattle.isolated.specs.declared.Isolated.{Isolated}
use Rattle.keep.specs.Gains.{Aim, Gain}
use Rattle.keep.specs.declared.Cover.{Cover}

-- ---- how many warnings: past 512, only that there are too many
unfoldable pub more : ℕ → ℕ
more n = cond (ltb n 513) (n + 1) n

unfoldable pub counted : ℕ → List Bytes → ℕ
counted n [] = n
counted n (w ∷ ws) = counted (more n) ws

-- ---- steps
abbrev pub refused_cover : Cover
refused_cover = record { over = true; ports = 0; warnings = 0; at = 0 }

abbrev pub counted_cover : Cover → Cover
counted_cover c = record { over = c.over; ports = c.ports + 1; warnings = c.warnings; at = c.at }

abbrev pub warned_cover : Cover → ℕ → Cover
warned_cover c o = record { over = c.over; ports = c.ports; warnings = more c.warnings; at = o }

-- room for all ports that are allowed
pub record Ready (c : Cover) (ports : List ℕ) : Type 0 where
  pub going : c.over ≡ false
  pub few : c.ports ≤ 256
  pub long : 5120 ≤ length ports

-- a port is put behind the others, where there is room
pub record KeepSeen (c : Cover) (x : Isolated) (ports : List ℕ) (r : Cover) (ports' : List ℕ) : Type 0 where
  pub answer : r ≡ cond (eqb c.ports 256) refused_cover (counted_cover c)
  pub table : ports' ≡ cond (eqb c.ports 256) ports (port_put ports c.ports x)

-- ---- what is written: the warnings where `warn` is set, else the lines of the report
abbrev pub said_by : Bool → Bytes → List Bytes → Bytes
said_by warn report remarks = cond warn (each warning_line remarks) report

abbrev pub said : Bool → Gain → Bytes
said warn g = said_by warn g.report g.remarks

-- a warning more
pub record Remarked (warn : Bool) (t : Bytes) (c : Cover) (out : Bytes) (r : Cover) (out' : Bytes) : Type 0 where
  pub is : r ≡ warned_cover c r.at
  pub text : out' ▸ r.at ≡ emit (out ▸ c.at) (said_by warn [] (t ∷ []))

-- ---- the port that is aimed at
abbrev pub with_net : Isolated → Part → Isolated
with_net x n =
    record {
      strategy = x.strategy;
      element = x.element;
      sep = x.sep;
      at = x.at;
      len = x.len;
      upto = x.upto;
      last = no_name;
      net = n.at;
      size = n.len;
    }

abbrev pub net_for : Bytes → Bytes → Isolated → Net → Option Bytes
net_for job mem x net.None = None
net_for job mem x net.Own = Some (text_of job mem (net_ref x))
net_for job mem x (net.Of n) = Some (text_of job mem (net_ref (with_net x n)))

abbrev pub aim_of : Bytes → Bytes → Isolated → Net → Aim
aim_of job mem x n = record { key = text_of job mem (port_ref x); net = net_for job mem x n }

-- ---- the answer: g is gained from c on, or more ports than are allowed
pub record Answer (job mem : Bytes) (warn : Bool) (c : Cover) (out : Bytes) (g : Gain) (r : Cover) (out' : Bytes) (ports : List ℕ) : Type 0 where
  pub ready : r.over ≡ false → Ready r ports
  pub rows : r.over ≡ false → kept_in job mem ports r.ports ≡ g.rows
  pub warnings : r.over ≡ false → r.warnings ≡ counted c.warnings g.remarks
  pub text : r.over ≡ false → out' ▸ r.at ≡ emit (out ▸ c.at) (said warn g)
  pub refused : r.over ≡ true → 256 < length g.rows
