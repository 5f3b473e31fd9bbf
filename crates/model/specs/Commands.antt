-- What each command does to the records (document 01, "Files and commands"; the Rust's `parse_upf_file`). `w` is the command's name as written,
-- `ws` the words behind it. Assumes nothing.
use Rattle.std.specs.Prelude.{ℕ, Bool, cond, not, ◌&&◌, ◌||◌, option_map, Option, None, Some}
use Prim.Native.String.{String}
use mathlib.Core.List.{List, [], ◌∷◌, ◌++◌, map, flat_map}
use Rattle.text.specs.Ascii.{Bytes, ascii}
use Rattle.text.specs.Compare.{same}
use Rattle.text.specs.Scan.{any}
use Rattle.out.specs.Fill.{format1}
use Rattle.tcl.specs.Lists.{list}
use Rattle.tcl.specs.Arguments.{positionals, option_of, has_flag, name_of, last_positional, State, states}
use Rattle.model.specs.Records.{Domain, Supply, Control, OnState, Named, Isolation, Table, Model, with_design_top, with_scope, with_domains, with_nets, with_ports, with_connections, with_switches, with_isolations, with_retentions, with_shifters, with_port_states, with_tables, with_warnings, with_variables, with_log}
use Rattle.model.specs.Scope.{scoped, moved}
use Rattle.model.specs.Names.{Command, is_query}

-- ---- options

abbrev pub or_else : Option Bytes → Bytes → Bytes
or_else None z = z
or_else (Some v) z = v

-- the value of an option, read as a list; nothing where it is not given
abbrev pub list_of : Option Bytes → List Bytes
list_of None = []
list_of (Some v) = list v

abbrev pub option_list : String → List Bytes → List Bytes
option_list key ws = list_of (option_of (ascii key) ws)

-- the entries of a list value, the k-th empty where it is not there
abbrev pub nth : ℕ → List Bytes → Bytes
nth k [] = []
nth ℕ.zero (e ∷ es) = e
nth (ℕ.suc k) (e ∷ es) = nth k es

abbrev pub below_scope : Model → Bytes → Bytes
below_scope m n = scoped m.scope n

abbrev pub all_below : Model → List Bytes → List Bytes
all_below m ns = map (below_scope m) ns

-- a warning more
abbrev pub warned : Model → Bytes → Model
warned m t = with_warnings m (m.warnings ++ (t ∷ []))

-- ---- records found by a test: the first one is changed; `none` where there is none
unfoldable pub on_first : {A : Type 0} → (A → Bool) → (A → A) → List A → Option (List A)
on_first t f [] = None
on_first {A = A} t f (x ∷ xs) = cond (t x) (Some (f x ∷ xs)) (option_map (λ (ys : List A). x ∷ ys) (on_first t f xs))

abbrev pub or_warned : {A : Type 0} → Option (List A) → (List A → Model) → Model → Model
or_warned None go m = m
or_warned (Some xs) go m = go xs

-- ---- set: with two positional words or more the first is a variable's name and the second its value
abbrev pub set_to : Model → List Bytes → Model
set_to m [] = m
set_to m (n ∷ []) = m
set_to m (n ∷ v ∷ ps) = with_variables m (m.variables ++ (record { name = n; value = v } ∷ []))

unfoldable pub set_command : Model → List Bytes → Model
set_command m ws = set_to m (positionals ws)

-- ---- "`puts` writes `[UPF] `, the last positional word and LF to the log."
unfoldable pub puts_command : Model → List Bytes → Model
puts_command m ws = with_log m (m.log ++ (ascii "[UPF] " ++ (last_positional ws ++ ascii "\n")))

-- ---- set_design_top: taken at the root, and the first one only
abbrev pub top_unless : Option Bytes → Bytes → Bytes → Option Bytes
top_unless (Some t) scope name = Some t
top_unless None scope name = cond (same scope []) (Some name) None

unfoldable pub design_top_command : Model → List Bytes → Model
design_top_command m ws = with_design_top m (top_unless m.design_top m.scope (name_of ws))

-- ---- set_scope
unfoldable pub scope_command : Model → List Bytes → Model
scope_command m ws = with_scope m (moved m.scope (name_of ws))

-- ---- create_power_domain
unfoldable pub domain_command : Model → List Bytes → Model
domain_command m ws =
    with_domains m (m.domains ++ (record {
      name = name_of ws;
      elements = all_below m (option_list "-elements" ws) ++ cond (has_flag (ascii "-include_scope") ws) (m.scope ∷ []) [];
      power = None;
      ground_net = None;
      scope = m.scope;
    } ∷ []))

-- ---- create_supply_net: a net that is known is no new one
unfoldable pub net_command : Model → List Bytes → Model
net_command m ws =
    cond (any (λ n. same n (below_scope m (name_of ws))) m.nets) m (with_nets m (m.nets ++ (below_scope m (name_of ws) ∷ [])))

-- ---- create_supply_port
unfoldable pub port_command : Model → List Bytes → Model
port_command m ws =
    with_ports m (m.ports ++ (record { name = below_scope m (name_of ws); direction = or_else (option_of (ascii "-direction") ws) (ascii "in") } ∷ []))

-- ---- connect_supply_net
unfoldable pub connect_command : Model → List Bytes → Model
connect_command m ws =
    with_connections m (m.connections ++ map (λ p. record { port = below_scope m p; net = below_scope m (name_of ws) }) (option_list "-ports" ws))

-- ---- set_domain_supply_net: both supplies of the first domain of the name are set anew
abbrev pub supplied : Option Bytes → Option Bytes → Domain → Domain
supplied p g d = record { name = d.name; elements = d.elements; power = p; ground_net = g; scope = d.scope }

unfoldable pub supply_command : Model → List Bytes → Model
supply_command m ws =
    or_warned
    (on_first (λ (d : Domain). same d.name (name_of ws)) (supplied (option_map (below_scope m) (option_of (ascii "-primary_power_net") ws)) (option_map (below_scope m) (option_of (ascii "-primary_ground_net") ws))) m.domains)
    (with_domains m)
    (warned m (format1 "set_domain_supply_net: unknown power domain '{0}'" (name_of ws)))

-- ---- create_power_switch

-- the first entry, and the second below the scope; empty where they are not there
abbrev pub supply_of : Model → List Bytes → Supply
supply_of m [] = record { port = []; net = [] }
supply_of m (p ∷ []) = record { port = p; net = [] }
supply_of m (p ∷ n ∷ es) = record { port = p; net = below_scope m n }

-- port and signal by turns; a port without a signal is left out
abbrev pub controls_of : List Bytes → List Control
controls_of [] = []
controls_of (p ∷ []) = []
controls_of (p ∷ s ∷ es) = record { port = p; signal = s } ∷ controls_of es

abbrev pub on_state : State → List OnState
on_state s = cond s.one (record { name = nth 0 (list s.value); port = nth 1 (list s.value); condition = nth 2 (list s.value) } ∷ []) []

abbrev pub off_state : State → List Named
off_state s = cond s.one [] (record { name = nth 0 (list s.value); value = nth 1 (list s.value) } ∷ [])

-- the words behind `-on_state` and `-off_state`, raw
abbrev pub switch_states : Bytes → List Bytes → List State
switch_states w ws = states (ascii "-on_state") (ascii "-off_state") (w ∷ ws)

unfoldable pub switch_command : Model → Bytes → List Bytes → Model
switch_command m w ws =
    with_switches m (m.switches ++ (record {
      name = name_of ws;
      domain = option_of (ascii "-domain") ws;
      input = supply_of m (option_list "-input_supply_port" ws);
      output = supply_of m (option_list "-output_supply_port" ws);
      controls = controls_of (option_list "-control_port" ws);
      on_states = flat_map on_state (switch_states w ws);
      off_states = flat_map off_state (switch_states w ws);
    } ∷ []))

-- ---- set_isolation

abbrev pub given : Option Bytes → Option Bytes → Option Bytes
given None old = old
given (Some v) old = Some v

abbrev pub replaced : List Bytes → List Bytes → List Bytes
replaced [] old = old
replaced (e ∷ es) old = e ∷ es

-- a strategy by its name, and by its domain where one is named
abbrev pub is_strategy : Bytes → Bytes → Isolation → Bool
is_strategy name domain s = same s.name name && (same domain [] || same s.domain domain)

abbrev pub domain_of : List Bytes → Bytes
domain_of ws = or_else (option_of (ascii "-domain") ws) []

abbrev pub new_isolation : Model → List Bytes → Isolation
new_isolation m ws =
    record {
      name = name_of ws;
      domain = domain_of ws;
      applies_to = option_of (ascii "-applies_to") ws;
      elements = all_below m (option_list "-elements" ws);
      clamp = or_else (option_of (ascii "-clamp_value") ws) (ascii "0");
      signal = option_of (ascii "-isolation_signal") ws;
      sense = or_else (option_of (ascii "-isolation_sense") ws) (ascii "high");
      power = option_of (ascii "-isolation_power_net") ws;
      ground_net = option_of (ascii "-isolation_ground_net") ws;
    }

-- what is given is set anew, elements only where there are some
abbrev pub updated : Model → List Bytes → Isolation → Isolation
updated m ws s =
    record {
      name = s.name;
      domain = s.domain;
      applies_to = given (option_of (ascii "-applies_to") ws) s.applies_to;
      elements = replaced (all_below m (option_list "-elements" ws)) s.elements;
      clamp = or_else (option_of (ascii "-clamp_value") ws) s.clamp;
      signal = given (option_of (ascii "-isolation_signal") ws) s.signal;
      sense = or_else (option_of (ascii "-isolation_sense") ws) s.sense;
      power = given (option_of (ascii "-isolation_power_net") ws) s.power;
      ground_net = given (option_of (ascii "-isolation_ground_net") ws) s.ground_net;
    }

abbrev pub added : Model → List Bytes → Model
added m ws = with_isolations m (m.isolations ++ (new_isolation m ws ∷ []))

-- `-no_isolation` is only remarked; `-update` changes the first strategy that fits, and enters a new one where none does
unfoldable pub isolation_command : Model → List Bytes → Model
isolation_command m ws =
    cond (has_flag (ascii "-no_isolation") ws) (warned m (format1 "set_isolation {0}: -no_isolation, ignored" (name_of ws)))
    (cond (has_flag (ascii "-update") ws)
    (or_warned (on_first (is_strategy (name_of ws) (domain_of ws)) (updated m ws) m.isolations) (with_isolations m) (added m ws))
    (added m ws))

-- ---- set_isolation_control
abbrev pub controlled : List Bytes → Isolation → Isolation
controlled ws s =
    record {
      name = s.name;
      domain = s.domain;
      applies_to = s.applies_to;
      elements = s.elements;
      clamp = s.clamp;
      signal = given (option_of (ascii "-isolation_signal") ws) s.signal;
      sense = or_else (option_of (ascii "-isolation_sense") ws) s.sense;
      power = s.power;
      ground_net = s.ground_net;
    }

unfoldable pub control_command : Model → List Bytes → Model
control_command m ws =
    or_warned (on_first (is_strategy (name_of ws) (domain_of ws)) (controlled ws) m.isolations) (with_isolations m)
    (warned m (format1 "set_isolation_control: unknown isolation strategy '{0}'" (name_of ws)))

-- ---- set_retention
unfoldable pub retention_command : Model → List Bytes → Model
retention_command m ws =
    with_retentions m (m.retentions ++ (record { name = name_of ws; domain = domain_of ws; elements = all_below m (option_list "-elements" ws) } ∷ []))

-- ---- set_level_shifter
unfoldable pub shifter_command : Model → List Bytes → Model
shifter_command m ws = with_shifters m (m.shifters ++ (record { name = name_of ws; domain = domain_of ws } ∷ []))

-- ---- add_port_state
abbrev pub port_state_of : State → Named
port_state_of s = record { name = nth 0 (list s.value); value = nth 1 (list s.value) }

abbrev pub port_states : Bytes → List Bytes → List State
port_states w ws = states (ascii "-state") (ascii "-state") (w ∷ ws)

unfoldable pub port_state_command : Model → Bytes → List Bytes → Model
port_state_command m w ws =
    with_port_states m (m.port_states ++ (record { name = below_scope m (name_of ws); states = map port_state_of (port_states w ws) } ∷ []))

-- ---- create_pst
unfoldable pub table_command : Model → List Bytes → Model
table_command m ws =
    with_tables m (m.tables ++ (record { name = name_of ws; supplies = all_below m (option_list "-supplies" ws); states = [] } ∷ []))

-- ---- add_pst_state: a state of the first table of the name
abbrev pub table_of : List Bytes → Bytes
table_of ws = or_else (option_of (ascii "-pst") ws) []

abbrev pub with_state : List Bytes → Table → Table
with_state ws t = record { name = t.name; supplies = t.supplies; states = t.states ++ (record { name = name_of ws; values = option_list "-state" ws } ∷ []) }

unfoldable pub table_state_command : Model → List Bytes → Model
table_state_command m ws =
    or_warned (on_first (λ (t : Table). same t.name (table_of ws)) (with_state ws) m.tables) (with_tables m)
    (warned m (format1 "add_pst_state: unknown PST '{0}'" (table_of ws)))

-- ---- a command of no name of the table: "one that starts with the six bytes `query_` passes unremarked, others warn as in the Rust"
unfoldable pub unsupported : Model → Bytes → Model
unsupported m w = cond (is_query w) m (warned m (format1 "unsupported UPF command '{0}' ignored" w))

-- ---- every command that moves no scope
abbrev pub carried_out : Command → Model → Bytes → List Bytes → Model
carried_out Command.set m w ws = set_command m ws
carried_out Command.puts m w ws = puts_command m ws
carried_out Command.set_design_top m w ws = design_top_command m ws
carried_out Command.create_power_domain m w ws = domain_command m ws
carried_out Command.create_supply_net m w ws = net_command m ws
carried_out Command.create_supply_port m w ws = port_command m ws
carried_out Command.connect_supply_net m w ws = connect_command m ws
carried_out Command.set_domain_supply_net m w ws = supply_command m ws
carried_out Command.create_power_switch m w ws = switch_command m w ws
carried_out Command.set_isolation m w ws = isolation_command m ws
carried_out Command.set_isolation_control m w ws = control_command m ws
carried_out Command.set_retention m w ws = retention_command m ws
carried_out Command.set_retention_control m w ws = m
carried_out Command.set_level_shifter m w ws = shifter_command m ws
carried_out Command.add_port_state m w ws = port_state_command m w ws
carried_out Command.create_pst m w ws = table_command m ws
carried_out Command.add_pst_state m w ws = table_state_command m ws
carried_out Command.not_simulated m w ws = warned m (format1 "'{0}' parsed but not simulated" w)
