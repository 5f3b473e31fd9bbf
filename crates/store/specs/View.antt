-- How the state and the store stand for the records. Assumes nothing.
use Rattle.std.specs.Prelude.{ℕ, ◌+◌, cond, ◌&&◌, eqb, leb, take, drop}
use mathlib.Core.List.{List, [], ◌∷◌, ◌++◌, map, flat_map}
use Rattle.text.specs.Ascii.{Bytes, ascii}
use Rattle.out.specs.Fill.{format1}
use Rattle.tcl.specs.Lists.{list}
use Rattle.substitution.specs.Stored.{variables}
use Rattle.model.specs.Scope.{scoped}
use Rattle.model.specs.Records.{Domain as Domainʳ, SupplyPort, Connection, OnState, Named, Switch as Switchʳ, Isolation as Isolationʳ, Retention as Retentionʳ, Shifter as Shifterʳ, PortState as PortStateʳ, TableState, Table as Tableʳ, Model, no_records, with_scope}
use Rattle.model.specs.Commands.{or_else, nth, supply_of, controls_of}
use Rattle.store.specs.Strings.{string, maybe_of, below_of, maybe_below_of}
use Rattle.store.specs.declared.stored.Stored.{Stored}
use Rattle.store.specs.declared.row.Row.{Row}
use Rattle.store.specs.declared.state.Domain.{Domain}
use Rattle.store.specs.declared.state.Port.{Port}
use Rattle.store.specs.declared.state.Switch.{Switch}
use Rattle.store.specs.declared.state.Isolation.{Isolation}
use Rattle.store.specs.declared.state.Retention.{Retention}
use Rattle.store.specs.declared.state.Shifter.{Shifter}
use Rattle.store.specs.declared.state.PortState.{PortState}
use Rattle.store.specs.declared.state.Table.{Table}
use Rattle.store.specs.declared.state.State.{State}

-- the rows, and the words of states, one behind the other
pub record Store : Type 0 where
  pub rows : List Row
  pub words : List Stored

-- the entries of a value, each below a scope
abbrev pub list_below : Bytes → Stored → Stored → List Bytes
list_below mem scope v = map (scoped (string mem scope)) (list (string mem v))

unfoldable pub domain_of : Bytes → Domain → Domainʳ
domain_of mem d =
    record {
      name = string mem d.name;
      elements = list_below mem d.scope d.elements ++ cond d.whole (string mem d.scope ∷ []) [];
      power = maybe_below_of mem d.power;
      ground_net = maybe_below_of mem d.ground_net;
      scope = string mem d.scope;
    }

unfoldable pub port_of : Bytes → Port → SupplyPort
port_of mem p = record { name = below_of mem p.name; direction = or_else (maybe_of mem p.direction) (ascii "in") }

-- the records before any command, in a scope
abbrev pub at_scope : Bytes → Model
at_scope scope = with_scope no_records scope

abbrev pub on_of : Bytes → OnState
on_of v = record { name = nth 0 (list v); port = nth 1 (list v); condition = nth 2 (list v) }

abbrev pub named_of : Bytes → Named
named_of v = record { name = nth 0 (list v); value = nth 1 (list v) }

-- some words of the store
abbrev pub words_at : Bytes → List Stored → ℕ → ℕ → List Bytes
words_at mem ws first count = map (string mem) (take count (drop first ws))

unfoldable pub switch_of : Bytes → List Stored → Switch → Switchʳ
switch_of mem ws x =
    record {
      name = string mem x.name;
      domain = maybe_of mem x.domain;
      input = supply_of (at_scope (string mem x.scope)) (list (string mem x.input));
      output = supply_of (at_scope (string mem x.scope)) (list (string mem x.output));
      controls = controls_of (list (string mem x.controls));
      on_states = map on_of (words_at mem ws x.first x.ons);
      off_states = map named_of (words_at mem ws (x.first + x.ons) x.offs);
    }

unfoldable pub isolation_of : Bytes → Isolation → Isolationʳ
isolation_of mem x =
    record {
      name = string mem x.name;
      domain = string mem x.domain;
      applies_to = maybe_of mem x.applies;
      elements = list_below mem x.scope x.elements;
      clamp = or_else (maybe_of mem x.clamp) (ascii "0");
      signal = maybe_of mem x.signal;
      sense = or_else (maybe_of mem x.sense) (ascii "high");
      power = maybe_of mem x.power;
      ground_net = maybe_of mem x.ground_net;
    }

unfoldable pub retention_of : Bytes → Retention → Retentionʳ
retention_of mem x = record { name = string mem x.name; domain = string mem x.domain; elements = list_below mem x.scope x.elements }

unfoldable pub shifter_of : Bytes → Shifter → Shifterʳ
shifter_of mem x = record { name = string mem x.name; domain = string mem x.domain }

unfoldable pub port_state_of : Bytes → List Stored → PortState → PortStateʳ
port_state_of mem ws x = record { name = below_of mem x.name; states = map named_of (words_at mem ws x.first x.count) }

-- ---- rows

-- of kind 1: each port of the value is connected to the net, both below the scope
unfoldable pub connections_of : Bytes → Row → List Connection
connections_of mem r =
    cond (eqb r.kind 1)
    (map (λ (p : Bytes). record { port = scoped (string mem r.scope) p; net = scoped (string mem r.scope) (string mem r.name) }) (list (string mem r.value)))
    []

-- of kind 2: a state of table k
unfoldable pub states_of : Bytes → ℕ → Row → List TableState
states_of mem k r = cond (eqb r.kind 2 && eqb r.scope.at k) (record { name = string mem r.name; values = list (string mem r.value) } ∷ []) []

-- of the other kinds: a warning
abbrev pub warning_of : Row → List Row
warning_of r = cond (leb 3 r.kind) (r ∷ []) []

unfoldable pub warnings_in : List Row → List Row
warnings_in [] = []
warnings_in (r ∷ rs) = warning_of r ++ warnings_in rs

unfoldable pub text_of : ℕ → Bytes → Bytes
text_of k w =
    cond (eqb k 3) (format1 "set_domain_supply_net: unknown power domain '{0}'" w)
    (cond (eqb k 4) (format1 "set_isolation {0}: -no_isolation, ignored" w)
    (cond (eqb k 5) (format1 "set_isolation_control: unknown isolation strategy '{0}'" w)
    (cond (eqb k 6) (format1 "add_pst_state: unknown PST '{0}'" w)
    (cond (eqb k 7) (format1 "'{0}' parsed but not simulated" w)
    (format1 "unsupported UPF command '{0}' ignored" w)))))

unfoldable pub warning_text : Bytes → Row → Bytes
warning_text mem r = text_of r.kind (string mem r.name)

unfoldable pub table_of : Bytes → List Row → ℕ → Table → Tableʳ
table_of mem rows k t =
    record { name = string mem t.name; supplies = list_below mem t.scope t.supplies; states = flat_map (states_of mem k) rows }

-- each with its number
unfoldable pub numbered : {A B : Type 0} → (ℕ → A → B) → ℕ → List A → List B
numbered f k [] = []
numbered f k (x ∷ xs) = f k x ∷ numbered f (k + 1) xs

-- ---- all of it; the log is what has been written to its buffer
unfoldable pub model_of : Bytes → Store → State → Bytes → Model
model_of mem st s log =
    record {
      design_top = maybe_of mem s.head.top;
      scope = string mem s.head.scope;
      domains = map (domain_of mem) (take s.domains.n s.domains.all);
      nets = map (below_of mem) (take s.nets.n s.nets.all);
      ports = map (port_of mem) (take s.ports.n s.ports.all);
      connections = flat_map (connections_of mem) st.rows;
      switches = map (switch_of mem st.words) (take s.switches.n s.switches.all);
      isolations = map (isolation_of mem) (take s.isolations.n s.isolations.all);
      retentions = map (retention_of mem) (take s.retentions.n s.retentions.all);
      shifters = map (shifter_of mem) (take s.shifters.n s.shifters.all);
      port_states = map (port_state_of mem st.words) (take s.portstates.n s.portstates.all);
      tables = numbered (table_of mem st.rows) 0 (take s.tables.n s.tables.all);
      warnings = map (warning_text mem) (warnings_in st.rows);
      variables = variables mem s.variables.all s.variables.n;
      log = log;
    }
