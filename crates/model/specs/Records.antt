-- The records that the commands enter (document 01, "Files and commands"; the Rust's `Model`). Names are as the Rust stores them: scoped where it
-- scopes them. Assumes nothing.
use Rattle.std.specs.Prelude.{List, [], Option, None}
use Rattle.text.specs.Ascii.{Bytes}
use Rattle.tcl.specs.Substitution.{Variable}

pub record Domain : Type 0 where
  pub name : Bytes
  pub elements : List Bytes
  -- the primary power and ground nets
  pub power : Option Bytes
  pub ground_net : Option Bytes
  pub scope : Bytes

pub record SupplyPort : Type 0 where
  pub name : Bytes
  pub direction : Bytes

-- a port connected to a net; of two for one port the last counts
pub record Connection : Type 0 where
  pub port : Bytes
  pub net : Bytes

-- a supply port of a switch and its net
pub record Supply : Type 0 where
  pub port : Bytes
  pub net : Bytes

-- a control port of a switch and its signal
pub record Control : Type 0 where
  pub port : Bytes
  pub signal : Bytes

-- `-on_state {NAME PORT EXPRESSION}`
pub record OnState : Type 0 where
  pub name : Bytes
  pub port : Bytes
  pub condition : Bytes

-- `-off_state {NAME EXPRESSION}`; also a state of a port and its value
pub record Named : Type 0 where
  pub name : Bytes
  pub value : Bytes

pub record Switch : Type 0 where
  pub name : Bytes
  pub domain : Option Bytes
  pub input : Supply
  pub output : Supply
  pub controls : List Control
  pub on_states : List OnState
  pub off_states : List Named

pub record Isolation : Type 0 where
  pub name : Bytes
  pub domain : Bytes
  pub applies_to : Option Bytes
  pub elements : List Bytes
  pub clamp : Bytes
  pub signal : Option Bytes
  pub sense : Bytes
  pub power : Option Bytes
  pub ground_net : Option Bytes

pub record Retention : Type 0 where
  pub name : Bytes
  pub domain : Bytes
  pub elements : List Bytes

pub record Shifter : Type 0 where
  pub name : Bytes
  pub domain : Bytes

pub record PortState : Type 0 where
  pub name : Bytes
  pub states : List Named

-- a state of a table: its name and the values in the order of the table's supplies
pub record TableState : Type 0 where
  pub name : Bytes
  pub values : List Bytes

pub record Table : Type 0 where
  pub name : Bytes
  pub supplies : List Bytes
  pub states : List TableState

-- all that the commands carried out have left
pub record Model : Type 0 where
  pub design_top : Option Bytes
  pub scope : Bytes
  pub domains : List Domain
  pub nets : List Bytes
  pub ports : List SupplyPort
  pub connections : List Connection
  pub switches : List Switch
  pub isolations : List Isolation
  pub retentions : List Retention
  pub shifters : List Shifter
  pub port_states : List PortState
  pub tables : List Table
  pub warnings : List Bytes
  pub variables : List Variable
  pub log : Bytes

-- before the first command
abbrev pub no_records : Model
no_records =
    record {
      design_top = None;
      scope = [];
      domains = [];
      nets = [];
      ports = [];
      connections = [];
      switches = [];
      isolations = [];
      retentions = [];
      shifters = [];
      port_states = [];
      tables = [];
      warnings = [];
      variables = [];
      log = [];
    }

-- ---- the records with one field anew

abbrev pub with_design_top : Model → Option Bytes → Model
with_design_top m x = record { design_top = x; scope = m.scope; domains = m.domains; nets = m.nets; ports = m.ports; connections = m.connections; switches = m.switches; isolations = m.isolations; retentions = m.retentions; shifters = m.shifters; port_states = m.port_states; tables = m.tables; warnings = m.warnings; variables = m.variables; log = m.log }

abbrev pub with_scope : Model → Bytes → Model
with_scope m x = record { design_top = m.design_top; scope = x; domains = m.domains; nets = m.nets; ports = m.ports; connections = m.connections; switches = m.switches; isolations = m.isolations; retentions = m.retentions; shifters = m.shifters; port_states = m.port_states; tables = m.tables; warnings = m.warnings; variables = m.variables; log = m.log }

abbrev pub with_domains : Model → List Domain → Model
with_domains m x = record { design_top = m.design_top; scope = m.scope; domains = x; nets = m.nets; ports = m.ports; connections = m.connections; switches = m.switches; isolations = m.isolations; retentions = m.retentions; shifters = m.shifters; port_states = m.port_states; tables = m.tables; warnings = m.warnings; variables = m.variables; log = m.log }

abbrev pub with_nets : Model → List Bytes → Model
with_nets m x = record { design_top = m.design_top; scope = m.scope; domains = m.domains; nets = x; ports = m.ports; connections = m.connections; switches = m.switches; isolations = m.isolations; retentions = m.retentions; shifters = m.shifters; port_states = m.port_states; tables = m.tables; warnings = m.warnings; variables = m.variables; log = m.log }

abbrev pub with_ports : Model → List SupplyPort → Model
with_ports m x = record { design_top = m.design_top; scope = m.scope; domains = m.domains; nets = m.nets; ports = x; connections = m.connections; switches = m.switches; isolations = m.isolations; retentions = m.retentions; shifters = m.shifters; port_states = m.port_states; tables = m.tables; warnings = m.warnings; variables = m.variables; log = m.log }

abbrev pub with_connections : Model → List Connection → Model
with_connections m x = record { design_top = m.design_top; scope = m.scope; domains = m.domains; nets = m.nets; ports = m.ports; connections = x; switches = m.switches; isolations = m.isolations; retentions = m.retentions; shifters = m.shifters; port_states = m.port_states; tables = m.tables; warnings = m.warnings; variables = m.variables; log = m.log }

abbrev pub with_switches : Model → List Switch → Model
with_switches m x = record { design_top = m.design_top; scope = m.scope; domains = m.domains; nets = m.nets; ports = m.ports; connections = m.connections; switches = x; isolations = m.isolations; retentions = m.retentions; shifters = m.shifters; port_states = m.port_states; tables = m.tables; warnings = m.warnings; variables = m.variables; log = m.log }

abbrev pub with_isolations : Model → List Isolation → Model
with_isolations m x = record { design_top = m.design_top; scope = m.scope; domains = m.domains; nets = m.nets; ports = m.ports; connections = m.connections; switches = m.switches; isolations = x; retentions = m.retentions; shifters = m.shifters; port_states = m.port_states; tables = m.tables; warnings = m.warnings; variables = m.variables; log = m.log }

abbrev pub with_retentions : Model → List Retention → Model
with_retentions m x = record { design_top = m.design_top; scope = m.scope; domains = m.domains; nets = m.nets; ports = m.ports; connections = m.connections; switches = m.switches; isolations = m.isolations; retentions = x; shifters = m.shifters; port_states = m.port_states; tables = m.tables; warnings = m.warnings; variables = m.variables; log = m.log }

abbrev pub with_shifters : Model → List Shifter → Model
with_shifters m x = record { design_top = m.design_top; scope = m.scope; domains = m.domains; nets = m.nets; ports = m.ports; connections = m.connections; switches = m.switches; isolations = m.isolations; retentions = m.retentions; shifters = x; port_states = m.port_states; tables = m.tables; warnings = m.warnings; variables = m.variables; log = m.log }

abbrev pub with_port_states : Model → List PortState → Model
with_port_states m x = record { design_top = m.design_top; scope = m.scope; domains = m.domains; nets = m.nets; ports = m.ports; connections = m.connections; switches = m.switches; isolations = m.isolations; retentions = m.retentions; shifters = m.shifters; port_states = x; tables = m.tables; warnings = m.warnings; variables = m.variables; log = m.log }

abbrev pub with_tables : Model → List Table → Model
with_tables m x = record { design_top = m.design_top; scope = m.scope; domains = m.domains; nets = m.nets; ports = m.ports; connections = m.connections; switches = m.switches; isolations = m.isolations; retentions = m.retentions; shifters = m.shifters; port_states = m.port_states; tables = x; warnings = m.warnings; variables = m.variables; log = m.log }

abbrev pub with_warnings : Model → List Bytes → Model
with_warnings m x = record { design_top = m.design_top; scope = m.scope; domains = m.domains; nets = m.nets; ports = m.ports; connections = m.connections; switches = m.switches; isolations = m.isolations; retentions = m.retentions; shifters = m.shifters; port_states = m.port_states; tables = m.tables; warnings = x; variables = m.variables; log = m.log }

abbrev pub with_variables : Model → List Variable → Model
with_variables m x = record { design_top = m.design_top; scope = m.scope; domains = m.domains; nets = m.nets; ports = m.ports; connections = m.connections; switches = m.switches; isolations = m.isolations; retentions = m.retentions; shifters = m.shifters; port_states = m.port_states; tables = m.tables; warnings = m.warnings; variables = x; log = m.log }

abbrev pub with_log : Model → Bytes → Model
with_log m x = record { design_top = m.design_top; scope = m.scope; domains = m.domains; nets = m.nets; ports = m.ports; connections = m.connections; switches = m.switches; isolations = m.isolations; retentions = m.retentions; shifters = m.shifters; port_states = m.port_states; tables = m.tables; warnings = m.warnings; variables = m.variables; log = x }
