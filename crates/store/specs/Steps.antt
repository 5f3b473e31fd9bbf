-- Laws: what a record more, a record changed, a row more do to the view and to the order of a state. Assumes nothing.
use Rattle.std.specs.Prelude.{Option}
use Rattle.std.specs.Prelude.{ℕ, ◌≤◌, ◌<◌, ◌≡◌, [], ◌∷◌, ◌++◌, length, set}
use Rattle.std.proofs.Common.{arith}
use Rattle.std.proofs.Math.Path.{refl, ap}
use Rattle.text.specs.Ascii.{Bytes}
use Rattle.model.specs.Records.{with_design_top, with_domains as with_domainsʳ, with_nets as with_netsʳ, with_ports as with_portsʳ, with_switches as with_switchesʳ, with_isolations as with_isolationsʳ, with_retentions as with_retentionsʳ, with_shifters as with_shiftersʳ, with_port_states, with_tables as with_tablesʳ}
use Rattle.store.specs.Strings.{maybe_of, below_of}
use Rattle.store.specs.View.{Store, domain_of, port_of, switch_of, isolation_of, retention_of, shifter_of, port_state_of, table_of, model_of}
use Rattle.store.specs.Order.{of_maybe, of_below, of_domain, of_port, of_switch, of_isolation, of_retention, of_shifter, of_port_state, of_table, switch_words, port_words, row_table, Shaped, Bounded}
use Rattle.store.specs.Added.{domain_added, net_added, port_added, switch_added, isolation_added, retention_added, shifter_added, portstate_added, table_added, domain_set, isolation_set, top_set, scope_set}
use Rattle.store.specs.Tables.{table_push, table_set, numbered_push, within_push, within_update, within_le, sized_push, sized_set}
use Rattle.store.specs.declared.stored.Stored.{Stored}
use Rattle.store.specs.declared.stored.Below.{Below}
use Rattle.store.specs.declared.state.Domain.{Domain}
use Rattle.store.specs.declared.state.Port.{Port}
use Rattle.store.specs.declared.state.Switch.{Switch}
use Rattle.store.specs.declared.state.Isolation.{Isolation}
use Rattle.store.specs.declared.state.Retention.{Retention}
use Rattle.store.specs.declared.state.Shifter.{Shifter}
use Rattle.store.specs.declared.state.PortState.{PortState}
use Rattle.store.specs.declared.state.Table.{Table}
use Rattle.store.specs.declared.state.State.{State}

-- ---- the view
module _ (mem : Bytes) (st : Store) (s : State) (log : Bytes) where
  pub domain_view : (x : Domain) → s.domains.n < length s.domains.all → model_of mem st (domain_added s x) log ≡ with_domainsʳ (model_of mem st s log) ((model_of mem st s log).domains ++ (domain_of mem x ∷ []))
  unfolding model_of
  domain_view x h = ap (with_domainsʳ (model_of mem st s log)) (table_push (domain_of mem) s.domains.all s.domains.n x h)

  pub net_view : (x : Below) → s.nets.n < length s.nets.all → model_of mem st (net_added s x) log ≡ with_netsʳ (model_of mem st s log) ((model_of mem st s log).nets ++ (below_of mem x ∷ []))
  unfolding model_of
  net_view x h = ap (with_netsʳ (model_of mem st s log)) (table_push (below_of mem) s.nets.all s.nets.n x h)

  pub port_view : (x : Port) → s.ports.n < length s.ports.all → model_of mem st (port_added s x) log ≡ with_portsʳ (model_of mem st s log) ((model_of mem st s log).ports ++ (port_of mem x ∷ []))
  unfolding model_of
  port_view x h = ap (with_portsʳ (model_of mem st s log)) (table_push (port_of mem) s.ports.all s.ports.n x h)

  pub switch_view : (x : Switch) → s.switches.n < length s.switches.all → model_of mem st (switch_added s x) log ≡ with_switchesʳ (model_of mem st s log) ((model_of mem st s log).switches ++ (switch_of mem st.words x ∷ []))
  unfolding model_of
  switch_view x h = ap (with_switchesʳ (model_of mem st s log)) (table_push (switch_of mem st.words) s.switches.all s.switches.n x h)

  pub isolation_view : (x : Isolation) → s.isolations.n < length s.isolations.all → model_of mem st (isolation_added s x) log ≡ with_isolationsʳ (model_of mem st s log) ((model_of mem st s log).isolations ++ (isolation_of mem x ∷ []))
  unfolding model_of
  isolation_view x h = ap (with_isolationsʳ (model_of mem st s log)) (table_push (isolation_of mem) s.isolations.all s.isolations.n x h)

  pub retention_view : (x : Retention) → s.retentions.n < length s.retentions.all → model_of mem st (retention_added s x) log ≡ with_retentionsʳ (model_of mem st s log) ((model_of mem st s log).retentions ++ (retention_of mem x ∷ []))
  unfolding model_of
  retention_view x h = ap (with_retentionsʳ (model_of mem st s log)) (table_push (retention_of mem) s.retentions.all s.retentions.n x h)

  pub shifter_view : (x : Shifter) → s.shifters.n < length s.shifters.all → model_of mem st (shifter_added s x) log ≡ with_shiftersʳ (model_of mem st s log) ((model_of mem st s log).shifters ++ (shifter_of mem x ∷ []))
  unfolding model_of
  shifter_view x h = ap (with_shiftersʳ (model_of mem st s log)) (table_push (shifter_of mem) s.shifters.all s.shifters.n x h)

  pub portstate_view : (x : PortState) → s.portstates.n < length s.portstates.all → model_of mem st (portstate_added s x) log ≡ with_port_states (model_of mem st s log) ((model_of mem st s log).port_states ++ (port_state_of mem st.words x ∷ []))
  unfolding model_of
  portstate_view x h = ap (with_port_states (model_of mem st s log)) (table_push (port_state_of mem st.words) s.portstates.all s.portstates.n x h)

  pub table_view : (x : Table) → s.tables.n < length s.tables.all → model_of mem st (table_added s x) log ≡ with_tablesʳ (model_of mem st s log) ((model_of mem st s log).tables ++ (table_of mem st.rows s.tables.n x ∷ []))
  unfolding model_of
  table_view x h = ap (with_tablesʳ (model_of mem st s log)) (numbered_push (table_of mem st.rows) s.tables.all s.tables.n x h)

  pub domain_set_view : (i : ℕ) (x : Domain) → i < s.domains.n → model_of mem st (domain_set s i x) log ≡ with_domainsʳ (model_of mem st s log) (set (model_of mem st s log).domains i (domain_of mem x))
  unfolding model_of
  domain_set_view i x h = ap (with_domainsʳ (model_of mem st s log)) (table_set (domain_of mem) s.domains.all s.domains.n i x h)

  pub isolation_set_view : (i : ℕ) (x : Isolation) → i < s.isolations.n → model_of mem st (isolation_set s i x) log ≡ with_isolationsʳ (model_of mem st s log) (set (model_of mem st s log).isolations i (isolation_of mem x))
  unfolding model_of
  isolation_set_view i x h = ap (with_isolationsʳ (model_of mem st s log)) (table_set (isolation_of mem) s.isolations.all s.isolations.n i x h)

  pub top_view : (x : Option Stored) → model_of mem st (top_set s x) log ≡ with_design_top (model_of mem st s log) (maybe_of mem x)
  unfolding model_of
  top_view x = refl

-- ---- the order
module _ (st : Store) (s : State) (v : Shaped st s) where
  pub domain_shaped : (x : Domain) → s.domains.n < 32 → Shaped st (domain_added s x)
  domain_shaped x h = record { scope = v.scope; domains = sized_push x v.domains h; nets = v.nets; ports = v.ports; switches = v.switches; isolations = v.isolations; retentions = v.retentions; shifters = v.shifters; portstates = v.portstates; tables = v.tables; long = v.long; variables = v.variables; switch_words = v.switch_words; port_words = v.port_words; row_tables = v.row_tables; rows = v.rows; words = v.words; warnings = v.warnings; warned = v.warned }

  pub net_shaped : (x : Below) → s.nets.n < 32 → Shaped st (net_added s x)
  net_shaped x h = record { scope = v.scope; domains = v.domains; nets = sized_push x v.nets h; ports = v.ports; switches = v.switches; isolations = v.isolations; retentions = v.retentions; shifters = v.shifters; portstates = v.portstates; tables = v.tables; long = v.long; variables = v.variables; switch_words = v.switch_words; port_words = v.port_words; row_tables = v.row_tables; rows = v.rows; words = v.words; warnings = v.warnings; warned = v.warned }

  pub port_shaped : (x : Port) → s.ports.n < 32 → Shaped st (port_added s x)
  port_shaped x h = record { scope = v.scope; domains = v.domains; nets = v.nets; ports = sized_push x v.ports h; switches = v.switches; isolations = v.isolations; retentions = v.retentions; shifters = v.shifters; portstates = v.portstates; tables = v.tables; long = v.long; variables = v.variables; switch_words = v.switch_words; port_words = v.port_words; row_tables = v.row_tables; rows = v.rows; words = v.words; warnings = v.warnings; warned = v.warned }

  pub switch_shaped : (x : Switch) → s.switches.n < 32 → switch_words x ≤ length st.words → Shaped st (switch_added s x)
  switch_shaped x h q = record { scope = v.scope; domains = v.domains; nets = v.nets; ports = v.ports; switches = sized_push x v.switches h; isolations = v.isolations; retentions = v.retentions; shifters = v.shifters; portstates = v.portstates; tables = v.tables; long = v.long; variables = v.variables; switch_words = within_push switch_words s.switches.all s.switches.n x v.switch_words (omega (arith, v.switches.long)) q; port_words = v.port_words; row_tables = v.row_tables; rows = v.rows; words = v.words; warnings = v.warnings; warned = v.warned }

  pub isolation_shaped : (x : Isolation) → s.isolations.n < 32 → Shaped st (isolation_added s x)
  isolation_shaped x h = record { scope = v.scope; domains = v.domains; nets = v.nets; ports = v.ports; switches = v.switches; isolations = sized_push x v.isolations h; retentions = v.retentions; shifters = v.shifters; portstates = v.portstates; tables = v.tables; long = v.long; variables = v.variables; switch_words = v.switch_words; port_words = v.port_words; row_tables = v.row_tables; rows = v.rows; words = v.words; warnings = v.warnings; warned = v.warned }

  pub retention_shaped : (x : Retention) → s.retentions.n < 32 → Shaped st (retention_added s x)
  retention_shaped x h = record { scope = v.scope; domains = v.domains; nets = v.nets; ports = v.ports; switches = v.switches; isolations = v.isolations; retentions = sized_push x v.retentions h; shifters = v.shifters; portstates = v.portstates; tables = v.tables; long = v.long; variables = v.variables; switch_words = v.switch_words; port_words = v.port_words; row_tables = v.row_tables; rows = v.rows; words = v.words; warnings = v.warnings; warned = v.warned }

  pub shifter_shaped : (x : Shifter) → s.shifters.n < 32 → Shaped st (shifter_added s x)
  shifter_shaped x h = record { scope = v.scope; domains = v.domains; nets = v.nets; ports = v.ports; switches = v.switches; isolations = v.isolations; retentions = v.retentions; shifters = sized_push x v.shifters h; portstates = v.portstates; tables = v.tables; long = v.long; variables = v.variables; switch_words = v.switch_words; port_words = v.port_words; row_tables = v.row_tables; rows = v.rows; words = v.words; warnings = v.warnings; warned = v.warned }

  pub portstate_shaped : (x : PortState) → s.portstates.n < 32 → port_words x ≤ length st.words → Shaped st (portstate_added s x)
  portstate_shaped x h q = record { scope = v.scope; domains = v.domains; nets = v.nets; ports = v.ports; switches = v.switches; isolations = v.isolations; retentions = v.retentions; shifters = v.shifters; portstates = sized_push x v.portstates h; tables = v.tables; long = v.long; variables = v.variables; switch_words = v.switch_words; port_words = within_push port_words s.portstates.all s.portstates.n x v.port_words (omega (arith, v.portstates.long)) q; row_tables = v.row_tables; rows = v.rows; words = v.words; warnings = v.warnings; warned = v.warned }

  pub table_shaped : (x : Table) → s.tables.n < 32 → Shaped st (table_added s x)
  table_shaped x h = record { scope = v.scope; domains = v.domains; nets = v.nets; ports = v.ports; switches = v.switches; isolations = v.isolations; retentions = v.retentions; shifters = v.shifters; portstates = v.portstates; tables = sized_push x v.tables h; long = v.long; variables = v.variables; switch_words = v.switch_words; port_words = v.port_words; row_tables = within_le row_table (omega arith) v.row_tables; rows = v.rows; words = v.words; warnings = v.warnings; warned = v.warned }

  pub domain_set_shaped : (i : ℕ) (x : Domain) → Shaped st (domain_set s i x)
  domain_set_shaped i x = record { scope = v.scope; domains = sized_set i x v.domains; nets = v.nets; ports = v.ports; switches = v.switches; isolations = v.isolations; retentions = v.retentions; shifters = v.shifters; portstates = v.portstates; tables = v.tables; long = v.long; variables = v.variables; switch_words = v.switch_words; port_words = v.port_words; row_tables = v.row_tables; rows = v.rows; words = v.words; warnings = v.warnings; warned = v.warned }

  pub isolation_set_shaped : (i : ℕ) (x : Isolation) → Shaped st (isolation_set s i x)
  isolation_set_shaped i x = record { scope = v.scope; domains = v.domains; nets = v.nets; ports = v.ports; switches = v.switches; isolations = sized_set i x v.isolations; retentions = v.retentions; shifters = v.shifters; portstates = v.portstates; tables = v.tables; long = v.long; variables = v.variables; switch_words = v.switch_words; port_words = v.port_words; row_tables = v.row_tables; rows = v.rows; words = v.words; warnings = v.warnings; warned = v.warned }

  pub top_shaped : (x : Option Stored) → Shaped st (top_set s x)
  top_shaped x = record { scope = v.scope; domains = v.domains; nets = v.nets; ports = v.ports; switches = v.switches; isolations = v.isolations; retentions = v.retentions; shifters = v.shifters; portstates = v.portstates; tables = v.tables; long = v.long; variables = v.variables; switch_words = v.switch_words; port_words = v.port_words; row_tables = v.row_tables; rows = v.rows; words = v.words; warnings = v.warnings; warned = v.warned }

  pub scope_shaped : (x : Stored) → x.len ≤ 512 → Shaped st (scope_set s x)
  scope_shaped x h = record { scope = h; domains = v.domains; nets = v.nets; ports = v.ports; switches = v.switches; isolations = v.isolations; retentions = v.retentions; shifters = v.shifters; portstates = v.portstates; tables = v.tables; long = v.long; variables = v.variables; switch_words = v.switch_words; port_words = v.port_words; row_tables = v.row_tables; rows = v.rows; words = v.words; warnings = v.warnings; warned = v.warned }

module _ (e : Stored → ℕ) (n : ℕ) (st : Store) (s : State) (v : Bounded e n st s) where
  pub domain_bounded : (x : Domain) → s.domains.n < length s.domains.all → of_domain e x ≤ n → Bounded e n st (domain_added s x)
  domain_bounded x h q = record { scope = v.scope; top = v.top; domains = within_push (of_domain e) s.domains.all s.domains.n x v.domains h q; nets = v.nets; ports = v.ports; switches = v.switches; isolations = v.isolations; retentions = v.retentions; shifters = v.shifters; portstates = v.portstates; tables = v.tables; variables = v.variables; rows = v.rows; words = v.words }

  pub net_bounded : (x : Below) → s.nets.n < length s.nets.all → of_below e x ≤ n → Bounded e n st (net_added s x)
  net_bounded x h q = record { scope = v.scope; top = v.top; domains = v.domains; nets = within_push (of_below e) s.nets.all s.nets.n x v.nets h q; ports = v.ports; switches = v.switches; isolations = v.isolations; retentions = v.retentions; shifters = v.shifters; portstates = v.portstates; tables = v.tables; variables = v.variables; rows = v.rows; words = v.words }

  pub port_bounded : (x : Port) → s.ports.n < length s.ports.all → of_port e x ≤ n → Bounded e n st (port_added s x)
  port_bounded x h q = record { scope = v.scope; top = v.top; domains = v.domains; nets = v.nets; ports = within_push (of_port e) s.ports.all s.ports.n x v.ports h q; switches = v.switches; isolations = v.isolations; retentions = v.retentions; shifters = v.shifters; portstates = v.portstates; tables = v.tables; variables = v.variables; rows = v.rows; words = v.words }

  pub switch_bounded : (x : Switch) → s.switches.n < length s.switches.all → of_switch e x ≤ n → Bounded e n st (switch_added s x)
  switch_bounded x h q = record { scope = v.scope; top = v.top; domains = v.domains; nets = v.nets; ports = v.ports; switches = within_push (of_switch e) s.switches.all s.switches.n x v.switches h q; isolations = v.isolations; retentions = v.retentions; shifters = v.shifters; portstates = v.portstates; tables = v.tables; variables = v.variables; rows = v.rows; words = v.words }

  pub isolation_bounded : (x : Isolation) → s.isolations.n < length s.isolations.all → of_isolation e x ≤ n → Bounded e n st (isolation_added s x)
  isolation_bounded x h q = record { scope = v.scope; top = v.top; domains = v.domains; nets = v.nets; ports = v.ports; switches = v.switches; isolations = within_push (of_isolation e) s.isolations.all s.isolations.n x v.isolations h q; retentions = v.retentions; shifters = v.shifters; portstates = v.portstates; tables = v.tables; variables = v.variables; rows = v.rows; words = v.words }

  pub retention_bounded : (x : Retention) → s.retentions.n < length s.retentions.all → of_retention e x ≤ n → Bounded e n st (retention_added s x)
  retention_bounded x h q = record { scope = v.scope; top = v.top; domains = v.domains; nets = v.nets; ports = v.ports; switches = v.switches; isolations = v.isolations; retentions = within_push (of_retention e) s.retentions.all s.retentions.n x v.retentions h q; shifters = v.shifters; portstates = v.portstates; tables = v.tables; variables = v.variables; rows = v.rows; words = v.words }

  pub shifter_bounded : (x : Shifter) → s.shifters.n < length s.shifters.all → of_shifter e x ≤ n → Bounded e n st (shifter_added s x)
  shifter_bounded x h q = record { scope = v.scope; top = v.top; domains = v.domains; nets = v.nets; ports = v.ports; switches = v.switches; isolations = v.isolations; retentions = v.retentions; shifters = within_push (of_shifter e) s.shifters.all s.shifters.n x v.shifters h q; portstates = v.portstates; tables = v.tables; variables = v.variables; rows = v.rows; words = v.words }

  pub portstate_bounded : (x : PortState) → s.portstates.n < length s.portstates.all → of_port_state e x ≤ n → Bounded e n st (portstate_added s x)
  portstate_bounded x h q = record { scope = v.scope; top = v.top; domains = v.domains; nets = v.nets; ports = v.ports; switches = v.switches; isolations = v.isolations; retentions = v.retentions; shifters = v.shifters; portstates = within_push (of_port_state e) s.portstates.all s.portstates.n x v.portstates h q; tables = v.tables; variables = v.variables; rows = v.rows; words = v.words }

  pub table_bounded : (x : Table) → s.tables.n < length s.tables.all → of_table e x ≤ n → Bounded e n st (table_added s x)
  table_bounded x h q = record { scope = v.scope; top = v.top; domains = v.domains; nets = v.nets; ports = v.ports; switches = v.switches; isolations = v.isolations; retentions = v.retentions; shifters = v.shifters; portstates = v.portstates; tables = within_push (of_table e) s.tables.all s.tables.n x v.tables h q; variables = v.variables; rows = v.rows; words = v.words }

  pub domain_set_bounded : (i : ℕ) (x : Domain) → i < s.domains.n → of_domain e x ≤ n → Bounded e n st (domain_set s i x)
  domain_set_bounded i x h q = record { scope = v.scope; top = v.top; domains = within_update (of_domain e) s.domains.all s.domains.n i x v.domains h q; nets = v.nets; ports = v.ports; switches = v.switches; isolations = v.isolations; retentions = v.retentions; shifters = v.shifters; portstates = v.portstates; tables = v.tables; variables = v.variables; rows = v.rows; words = v.words }

  pub isolation_set_bounded : (i : ℕ) (x : Isolation) → i < s.isolations.n → of_isolation e x ≤ n → Bounded e n st (isolation_set s i x)
  isolation_set_bounded i x h q = record { scope = v.scope; top = v.top; domains = v.domains; nets = v.nets; ports = v.ports; switches = v.switches; isolations = within_update (of_isolation e) s.isolations.all s.isolations.n i x v.isolations h q; retentions = v.retentions; shifters = v.shifters; portstates = v.portstates; tables = v.tables; variables = v.variables; rows = v.rows; words = v.words }

  pub top_bounded : (x : Option Stored) → of_maybe e x ≤ n → Bounded e n st (top_set s x)
  top_bounded x q = record { scope = v.scope; top = q; domains = v.domains; nets = v.nets; ports = v.ports; switches = v.switches; isolations = v.isolations; retentions = v.retentions; shifters = v.shifters; portstates = v.portstates; tables = v.tables; variables = v.variables; rows = v.rows; words = v.words }

  pub scope_bounded : (x : Stored) → e x ≤ n → Bounded e n st (scope_set s x)
  scope_bounded x q = record { scope = q; top = v.top; domains = v.domains; nets = v.nets; ports = v.ports; switches = v.switches; isolations = v.isolations; retentions = v.retentions; shifters = v.shifters; portstates = v.portstates; tables = v.tables; variables = v.variables; rows = v.rows; words = v.words }
