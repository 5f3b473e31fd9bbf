-- Laws: which of the reading limits of records a change can pass. Assumes nothing.
use Rattle.std.specs.Prelude.{◌≡◌, refl, Bool, true, false, ◌&&◌, List, leb, length, Option}
use Rattle.text.specs.Ascii.{Bytes}
use Rattle.tcl.specs.Substitution.{Variable}
use Rattle.model.specs.Limits.{most_records, most_sets, most_warnings, most_scope}
use Rattle.model.specs.Records.{Domain, SupplyPort, Switch, Isolation, Retention, Shifter, PortState, Table, Model, with_design_top, with_scope, with_domains, with_nets, with_ports, with_switches, with_isolations, with_retentions, with_shifters, with_port_states, with_tables, with_warnings, with_variables}
use Rattle.model.specs.Within.{records_fit}

-- each limit by itself
pub record Fits (m : Model) : Type 0 where
  pub domains : leb (length m.domains) most_records ≡ true
  pub nets : leb (length m.nets) most_records ≡ true
  pub ports : leb (length m.ports) most_records ≡ true
  pub switches : leb (length m.switches) most_records ≡ true
  pub isolations : leb (length m.isolations) most_records ≡ true
  pub retentions : leb (length m.retentions) most_records ≡ true
  pub shifters : leb (length m.shifters) most_records ≡ true
  pub port_states : leb (length m.port_states) most_records ≡ true
  pub tables : leb (length m.tables) most_records ≡ true
  pub variables : leb (length m.variables) most_sets ≡ true
  pub warnings : leb (length m.warnings) most_warnings ≡ true
  pub scope : leb (length m.scope) most_scope ≡ true

and_true : (b : Bool) → b && true ≡ b
and_true true = refl
and_true false = refl

pub fits_all : (m : Model) → Fits m → records_fit m ≡ true
fits_all m f = rw (f.domains, f.nets, f.ports, f.switches, f.isolations, f.retentions, f.shifters, f.port_states, f.tables, f.variables, f.warnings, f.scope)

module _ (m : Model) (f : Fits m) where
  pub fit_domains : (xs : List Domain) → records_fit (with_domains m xs) ≡ leb (length xs) most_records
  fit_domains xs = rw (f.nets, f.ports, f.switches, f.isolations, f.retentions, f.shifters, f.port_states, f.tables, f.variables, f.warnings, f.scope) (and_true (leb (length xs) most_records))

  pub fit_nets : (xs : List Bytes) → records_fit (with_nets m xs) ≡ leb (length xs) most_records
  fit_nets xs = rw (f.domains, f.ports, f.switches, f.isolations, f.retentions, f.shifters, f.port_states, f.tables, f.variables, f.warnings, f.scope) (and_true (leb (length xs) most_records))

  pub fit_ports : (xs : List SupplyPort) → records_fit (with_ports m xs) ≡ leb (length xs) most_records
  fit_ports xs = rw (f.domains, f.nets, f.switches, f.isolations, f.retentions, f.shifters, f.port_states, f.tables, f.variables, f.warnings, f.scope) (and_true (leb (length xs) most_records))

  pub fit_switches : (xs : List Switch) → records_fit (with_switches m xs) ≡ leb (length xs) most_records
  fit_switches xs = rw (f.domains, f.nets, f.ports, f.isolations, f.retentions, f.shifters, f.port_states, f.tables, f.variables, f.warnings, f.scope) (and_true (leb (length xs) most_records))

  pub fit_isolations : (xs : List Isolation) → records_fit (with_isolations m xs) ≡ leb (length xs) most_records
  fit_isolations xs = rw (f.domains, f.nets, f.ports, f.switches, f.retentions, f.shifters, f.port_states, f.tables, f.variables, f.warnings, f.scope) (and_true (leb (length xs) most_records))

  pub fit_retentions : (xs : List Retention) → records_fit (with_retentions m xs) ≡ leb (length xs) most_records
  fit_retentions xs = rw (f.domains, f.nets, f.ports, f.switches, f.isolations, f.shifters, f.port_states, f.tables, f.variables, f.warnings, f.scope) (and_true (leb (length xs) most_records))

  pub fit_shifters : (xs : List Shifter) → records_fit (with_shifters m xs) ≡ leb (length xs) most_records
  fit_shifters xs = rw (f.domains, f.nets, f.ports, f.switches, f.isolations, f.retentions, f.port_states, f.tables, f.variables, f.warnings, f.scope) (and_true (leb (length xs) most_records))

  pub fit_port_states : (xs : List PortState) → records_fit (with_port_states m xs) ≡ leb (length xs) most_records
  fit_port_states xs = rw (f.domains, f.nets, f.ports, f.switches, f.isolations, f.retentions, f.shifters, f.tables, f.variables, f.warnings, f.scope) (and_true (leb (length xs) most_records))

  pub fit_tables : (xs : List Table) → records_fit (with_tables m xs) ≡ leb (length xs) most_records
  fit_tables xs = rw (f.domains, f.nets, f.ports, f.switches, f.isolations, f.retentions, f.shifters, f.port_states, f.variables, f.warnings, f.scope) (and_true (leb (length xs) most_records))

  pub fit_variables : (xs : List Variable) → records_fit (with_variables m xs) ≡ leb (length xs) most_sets
  fit_variables xs = rw (f.domains, f.nets, f.ports, f.switches, f.isolations, f.retentions, f.shifters, f.port_states, f.tables, f.warnings, f.scope) (and_true (leb (length xs) most_sets))

  pub fit_warnings : (xs : List Bytes) → records_fit (with_warnings m xs) ≡ leb (length xs) most_warnings
  fit_warnings xs = rw (f.domains, f.nets, f.ports, f.switches, f.isolations, f.retentions, f.shifters, f.port_states, f.tables, f.variables, f.scope) (and_true (leb (length xs) most_warnings))

  pub fit_scope : (x : Bytes) → records_fit (with_scope m x) ≡ leb (length x) most_scope
  fit_scope x = rw (f.domains, f.nets, f.ports, f.switches, f.isolations, f.retentions, f.shifters, f.port_states, f.tables, f.variables, f.warnings)

  pub fit_design_top : (x : Option Bytes) → records_fit (with_design_top m x) ≡ true
  fit_design_top x = fits_all m f
