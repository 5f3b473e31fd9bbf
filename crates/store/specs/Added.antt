-- The state with one part anew, as the code leaves it. Assumes nothing.
use Rattle.store.specs.declared.state.Few.{Few}
use Rattle.std.specs.Prelude.{Option}
use Rattle.std.specs.Prelude.{ℕ, ◌+◌, ◌*◌, set}
use Rattle.store.specs.declared.stored.Stored.{Stored}
use Rattle.store.specs.declared.stored.Below.{Below}
use Rattle.store.specs.declared.state.Domain.{Domain}
use Rattle.store.specs.declared.state.Port.{Port}
use Rattle.store.specs.declared.state.Switch.{Switch}
use Rattle.store.specs.declared.state.Isolation.{Isolation}
use Rattle.store.specs.declared.state.Retention.{Retention}
use Rattle.store.specs.declared.state.Shifter.{Shifter}
use Rattle.store.specs.declared.state.PortState.{PortState}
use Rattle.store.specs.declared.state.Table.{Table}
use Rattle.store.specs.declared.state.Head.{Head}
use Rattle.store.specs.declared.state.Variables.{Variables}
use Rattle.store.specs.declared.state.State.{State}

abbrev pub with_head : State → Head → State
with_head s x = record { head = x; count = s.count; fill = s.fill; domains = s.domains; nets = s.nets; ports = s.ports; switches = s.switches; isolations = s.isolations; retentions = s.retentions; shifters = s.shifters; portstates = s.portstates; tables = s.tables; variables = s.variables }

abbrev pub with_domains : State → Few Domain → State
with_domains s x = record { head = s.head; count = s.count; fill = s.fill; domains = x; nets = s.nets; ports = s.ports; switches = s.switches; isolations = s.isolations; retentions = s.retentions; shifters = s.shifters; portstates = s.portstates; tables = s.tables; variables = s.variables }

abbrev pub with_nets : State → Few Below → State
with_nets s x = record { head = s.head; count = s.count; fill = s.fill; domains = s.domains; nets = x; ports = s.ports; switches = s.switches; isolations = s.isolations; retentions = s.retentions; shifters = s.shifters; portstates = s.portstates; tables = s.tables; variables = s.variables }

abbrev pub with_ports : State → Few Port → State
with_ports s x = record { head = s.head; count = s.count; fill = s.fill; domains = s.domains; nets = s.nets; ports = x; switches = s.switches; isolations = s.isolations; retentions = s.retentions; shifters = s.shifters; portstates = s.portstates; tables = s.tables; variables = s.variables }

abbrev pub with_switches : State → Few Switch → State
with_switches s x = record { head = s.head; count = s.count; fill = s.fill; domains = s.domains; nets = s.nets; ports = s.ports; switches = x; isolations = s.isolations; retentions = s.retentions; shifters = s.shifters; portstates = s.portstates; tables = s.tables; variables = s.variables }

abbrev pub with_isolations : State → Few Isolation → State
with_isolations s x = record { head = s.head; count = s.count; fill = s.fill; domains = s.domains; nets = s.nets; ports = s.ports; switches = s.switches; isolations = x; retentions = s.retentions; shifters = s.shifters; portstates = s.portstates; tables = s.tables; variables = s.variables }

abbrev pub with_retentions : State → Few Retention → State
with_retentions s x = record { head = s.head; count = s.count; fill = s.fill; domains = s.domains; nets = s.nets; ports = s.ports; switches = s.switches; isolations = s.isolations; retentions = x; shifters = s.shifters; portstates = s.portstates; tables = s.tables; variables = s.variables }

abbrev pub with_shifters : State → Few Shifter → State
with_shifters s x = record { head = s.head; count = s.count; fill = s.fill; domains = s.domains; nets = s.nets; ports = s.ports; switches = s.switches; isolations = s.isolations; retentions = s.retentions; shifters = x; portstates = s.portstates; tables = s.tables; variables = s.variables }

abbrev pub with_portstates : State → Few PortState → State
with_portstates s x = record { head = s.head; count = s.count; fill = s.fill; domains = s.domains; nets = s.nets; ports = s.ports; switches = s.switches; isolations = s.isolations; retentions = s.retentions; shifters = s.shifters; portstates = x; tables = s.tables; variables = s.variables }

abbrev pub with_tables : State → Few Table → State
with_tables s x = record { head = s.head; count = s.count; fill = s.fill; domains = s.domains; nets = s.nets; ports = s.ports; switches = s.switches; isolations = s.isolations; retentions = s.retentions; shifters = s.shifters; portstates = s.portstates; tables = x; variables = s.variables }

abbrev pub with_variables : State → Variables → State
with_variables s x = record { head = s.head; count = s.count; fill = s.fill; domains = s.domains; nets = s.nets; ports = s.ports; switches = s.switches; isolations = s.isolations; retentions = s.retentions; shifters = s.shifters; portstates = s.portstates; tables = s.tables; variables = x }

-- ---- a record more

abbrev pub domain_added : State → Domain → State
domain_added s x = with_domains s (record { n = s.domains.n + 1; all = set s.domains.all s.domains.n x })

abbrev pub net_added : State → Below → State
net_added s x = with_nets s (record { n = s.nets.n + 1; all = set s.nets.all s.nets.n x })

abbrev pub port_added : State → Port → State
port_added s x = with_ports s (record { n = s.ports.n + 1; all = set s.ports.all s.ports.n x })

abbrev pub switch_added : State → Switch → State
switch_added s x = with_switches s (record { n = s.switches.n + 1; all = set s.switches.all s.switches.n x })

abbrev pub isolation_added : State → Isolation → State
isolation_added s x = with_isolations s (record { n = s.isolations.n + 1; all = set s.isolations.all s.isolations.n x })

abbrev pub retention_added : State → Retention → State
retention_added s x = with_retentions s (record { n = s.retentions.n + 1; all = set s.retentions.all s.retentions.n x })

abbrev pub shifter_added : State → Shifter → State
shifter_added s x = with_shifters s (record { n = s.shifters.n + 1; all = set s.shifters.all s.shifters.n x })

abbrev pub portstate_added : State → PortState → State
portstate_added s x = with_portstates s (record { n = s.portstates.n + 1; all = set s.portstates.all s.portstates.n x })

abbrev pub table_added : State → Table → State
table_added s x = with_tables s (record { n = s.tables.n + 1; all = set s.tables.all s.tables.n x })

abbrev pub variable_added : State → Stored → Stored → State
variable_added s a b =
    with_variables s
    (record {
      n = s.variables.n + 1;
      all = set (set (set (set s.variables.all (4 * s.variables.n) a.at) (4 * s.variables.n + 1) a.len) (4 * s.variables.n + 2) b.at) (4 * s.variables.n + 3) b.len;
    })

-- ---- a record changed

abbrev pub supplied_by : Domain → Option Below → Option Below → Domain
supplied_by d p g = record { name = d.name; elements = d.elements; whole = d.whole; power = p; ground_net = g; scope = d.scope }

abbrev pub domain_set : State → ℕ → Domain → State
domain_set s i x = with_domains s (record { n = s.domains.n; all = set s.domains.all i x })

abbrev pub isolation_set : State → ℕ → Isolation → State
isolation_set s i x = with_isolations s (record { n = s.isolations.n; all = set s.isolations.all i x })

abbrev pub scope_set : State → Stored → State
scope_set s x = with_head s (record { scope = x; top = s.head.top })

abbrev pub top_set : State → Option Stored → State
top_set s x = with_head s (record { scope = s.head.scope; top = x })

-- ---- a row more is counted, and a warning more

abbrev pub row_counted : State → State
row_counted s = record { head = s.head; count = s.count; fill = record { end = s.fill.end; log = s.fill.log; rows = s.fill.rows + 1; words = s.fill.words; warnings = s.fill.warnings }; domains = s.domains; nets = s.nets; ports = s.ports; switches = s.switches; isolations = s.isolations; retentions = s.retentions; shifters = s.shifters; portstates = s.portstates; tables = s.tables; variables = s.variables }

abbrev pub warning_counted : State → State
warning_counted s = record { head = s.head; count = s.count; fill = record { end = s.fill.end; log = s.fill.log; rows = s.fill.rows + 1; words = s.fill.words; warnings = s.fill.warnings + 1 }; domains = s.domains; nets = s.nets; ports = s.ports; switches = s.switches; isolations = s.isolations; retentions = s.retentions; shifters = s.shifters; portstates = s.portstates; tables = s.tables; variables = s.variables }
