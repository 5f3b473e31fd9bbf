-- What a command answers, as the code makes it, and how it stands for the records. Assumes nothing.
use Rattle.std.specs.Prelude.{ℕ, ◌+◌, ◌≤◌, ◌<◌, ◌^◌, ◌≡◌, cond, List, ◌++◌, eqb, leb, length, Option, None, Some}
use Rattle.text.specs.Ascii.{Bytes}
use Rattle.spans.specs.Span.{pairs}
use Rattle.spans.specs.Reach.{span_end, last_of, reach}
use Rattle.model.specs.Records.{Model}
use Rattle.model.specs.Within.{records_fit}
use Rattle.store.specs.Strings.{no_string, span_of}
use Rattle.store.specs.View.{Store, model_of}
use Rattle.store.specs.Order.{Shaped, Bounded}
use Rattle.store.specs.Rows.{Packs}
use Rattle.store.specs.Added.{row_counted, warning_counted, domain_added, net_added, port_added, switch_added, isolation_added, retention_added, shifter_added, portstate_added, table_added, variable_added, domain_set, isolation_set, top_set}
use Rattle.store.specs.Rowed.{with_row}
use Rattle.store.specs.declared.stored.Stored.{Stored}
use Rattle.store.specs.declared.row.Row.{Row}
use Rattle.store.specs.declared.state.State.{State}
use Rattle.made.specs.declared.Made.{Made}
use Rattle.made.specs.declared.Brief.{Brief}
use Rattle.made.specs.declared.Deed.{Deed}
use Rattle.made.specs.declared.Deed.TheVariants as deed

abbrev pub no_row : Row
no_row = record { kind = 0; scope = no_string; name = no_string; value = no_string }

abbrev pub fine_made : State → Made
fine_made s = record { tag = 0; state = s; row = no_row }

abbrev pub full_made : State → Made
full_made s = record { tag = 10; state = s; row = no_row }

abbrev pub row_made : State → Row → Made
row_made s r = record { tag = 0; state = row_counted s; row = r }

abbrev pub warning_row : ℕ → Stored → Row
warning_row kind name = record { kind = kind; scope = no_string; name = name; value = no_string }

abbrev pub warned_made : State → ℕ → Stored → Made
warned_made s kind name = cond (leb 256 s.fill.warnings) (full_made s) (record { tag = 0; state = warning_counted s; row = warning_row kind name })

-- the state with so many words of the store
abbrev pub words_set : State → ℕ → State
words_set s k = record { head = s.head; count = s.count; fill = record { end = s.fill.end; log = s.fill.log; rows = s.fill.rows; words = k; warnings = s.fill.warnings }; domains = s.domains; nets = s.nets; ports = s.ports; switches = s.switches; isolations = s.isolations; retentions = s.retentions; shifters = s.shifters; portstates = s.portstates; tables = s.tables; variables = s.variables }

-- what a command is told of the state
abbrev pub brief_of : State → Brief
brief_of s = record { scope = s.head.scope; top = s.head.top; words = s.fill.words; domains = s.domains.n; ports = s.ports.n; switches = s.switches.n; isolations = s.isolations.n; retentions = s.retentions.n; shifters = s.shifters.n; portstates = s.portstates.n; tables = s.tables.n; variables = s.variables.n }

-- the answer that a deed comes to
abbrev pub done_by : State → Deed → Made
done_by s deed.Nothing = fine_made s
done_by s deed.Full = full_made s
done_by s (deed.Warning kind name) = warned_made s kind name
done_by s (deed.Row r) = row_made s r
done_by s (deed.Variable a b) = fine_made (variable_added s a b)
done_by s (deed.Top t) = fine_made (top_set s t)
done_by s (deed.Domain x) = fine_made (domain_added s x)
done_by s (deed.Supplied i x) = fine_made (domain_set s i x)
done_by s (deed.Net x) = fine_made (net_added s x)
done_by s (deed.Port x) = fine_made (port_added s x)
done_by s (deed.Isolation x) = fine_made (isolation_added s x)
done_by s (deed.Controlled i x) = fine_made (isolation_set s i x)
done_by s (deed.Retention x) = fine_made (retention_added s x)
done_by s (deed.Shifter x) = fine_made (shifter_added s x)
done_by s (deed.Table x) = fine_made (table_added s x)
done_by s (deed.Switch x e) = fine_made (words_set (switch_added s x) e)
done_by s (deed.PortState x e) = fine_made (words_set (portstate_added s x) e)

-- the place of a record that is made or changed is in its table
abbrev pub Fits : State → Deed → Type 0
Fits s deed.Nothing = Unit {0}
Fits s deed.Full = Unit {0}
Fits s (deed.Warning kind name) = Unit {0}
Fits s (deed.Row r) = Unit {0}
Fits s (deed.Variable a b) = s.variables.n < 64
Fits s (deed.Top t) = Unit {0}
Fits s (deed.Domain x) = s.domains.n < 32
Fits s (deed.Supplied i x) = i < 32
Fits s (deed.Net x) = s.nets.n < 32
Fits s (deed.Port x) = s.ports.n < 32
Fits s (deed.Isolation x) = s.isolations.n < 32
Fits s (deed.Controlled i x) = i < 32
Fits s (deed.Retention x) = s.retentions.n < 32
Fits s (deed.Shifter x) = s.shifters.n < 32
Fits s (deed.Table x) = s.tables.n < 32
Fits s (deed.Switch x e) = s.switches.n < 32
Fits s (deed.PortState x e) = s.portstates.n < 32

-- ---- the records that an answer stands for; none where it refuses
abbrev pub made_of : Bytes → Store → Bytes → Made → Option Model
made_of mem st log r = cond (eqb r.tag 0) (Some (model_of mem (with_row st r.row) r.state log)) None

-- the records that a command leaves, where they are within the limits
abbrev pub fitted : Model → Option Model
fitted m = cond (records_fit m) (Some m) None

-- how far a stored string reaches, where the files are `long`
abbrev pub reach_of : ℕ → Stored → ℕ
reach_of long s = reach long (span_of s)

-- what a command asks of the words that it is handed: they can be stored
abbrev pub Line : List ℕ → ℕ → Type 0
Line words n = last_of span_end (pairs words 0 n) < 2 ^ 32

-- what a command's answer rests on: the state is in order, and its strings and the words of the command reach no further than the memory that is known
pub record Ready (long : ℕ) (mem : Bytes) (words : List ℕ) (n : ℕ) (st : Store) (s : State) : Type 0 where
  pub shaped : Shaped st s
  pub bounded : Bounded (reach_of long) (length mem) st s
  pub line : last_of (reach long) (pairs words 0 n) ≤ length mem
  pub small : length mem < 2 ^ 17 + 1

-- what stays
pub record Kept (s u : State) : Type 0 where
  pub count : u.count ≡ s.count
  pub scope : u.head.scope ≡ s.head.scope
  pub end : u.fill.end ≡ s.fill.end
  pub log : u.fill.log ≡ s.fill.log
  pub words : u.fill.words ≡ s.fill.words

-- what a command does: the records t where they are within the limits, and the order again
pub record Did (long : ℕ) (mem : Bytes) (st : Store) (log : Bytes) (s : State) (r : Made) (t : Model) : Type 0 where
  pub result : made_of mem st log r ≡ fitted t
  pub shaped : Shaped (with_row st r.row) r.state
  pub bounded : Bounded (reach_of long) (length mem) (with_row st r.row) r.state
  pub packs : Packs r.row
  pub kept : Kept s r.state

-- what a command's deed does to any state of which K holds, where f is what the command does to the records
pub record Done (files area : Bytes) (words : List ℕ) (n : ℕ) (s : State) (r : Deed) (f : Model → Model) : Type 0 where
  pub fits : Fits s r
  pub did : (st : Store) (log : Bytes) → Ready (length files) (files ++ area) words n st s → Did (length files) (files ++ area) st log s (done_by s r) (f (model_of (files ++ area) st s log))

abbrev pub Does : Bytes → Bytes → List ℕ → ℕ → (State → Type 0) → Deed → (Model → Model) → Type 0
Does files area words n K r f = (s : State) → K s → Done files area words n s r f
