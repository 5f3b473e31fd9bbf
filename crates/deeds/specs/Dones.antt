-- Laws: the record of a deed in its table, for each kind of deed: its place is in the table, and the state with the table changed is the state with its record.
-- Assumes nothing.
use Rattle.store.specs.declared.state.Few.{Few}
use Rattle.std.specs.Prelude.{Option}
use Rattle.std.specs.Prelude.{ℕ, ◌+◌, ◌*◌, ◌<◌, ◌≡◌, refl, [], ◌∷◌, set}
use types.Run.{OneOf, miss}
use denote.Enum.Declared.{tag_of}
use Rattle.store.specs.Added.{with_head, with_domains, with_nets, with_ports, with_switches, with_isolations, with_retentions, with_shifters, with_portstates, with_tables, with_variables}
use Rattle.store.specs.declared.stored.Stored.{Stored}
use Rattle.store.specs.declared.stored.Below.{Below}
use Rattle.store.specs.declared.state.Head.{Head}
use Rattle.store.specs.declared.state.Variables.{Variables}
use Rattle.store.specs.declared.state.Domain.{Domain}
use Rattle.store.specs.declared.state.Isolation.{Isolation}
use Rattle.store.specs.declared.state.Port.{Port}
use Rattle.store.specs.declared.state.PortState.{PortState}
use Rattle.store.specs.declared.state.Retention.{Retention}
use Rattle.store.specs.declared.state.Shifter.{Shifter}
use Rattle.store.specs.declared.state.Switch.{Switch}
use Rattle.store.specs.declared.state.Table.{Table}
use Rattle.store.specs.declared.state.State.{State}
use Rattle.made.specs.contracts.Deed.{the_type}
use Rattle.made.specs.declared.Deed.{Deed}
use Rattle.made.specs.declared.Deed.TheVariants as deed
use Rattle.made.specs.Made.{words_set, Fits}
use Rattle.deeds.specs.Deeds.{record_by}

module _ (s : State) (d : Deed) where
  pub domain_fits_lem : (x : Domain) → d ≡ deed.Domain x → Fits s d → s.domains.n < 32
  domain_fits_lem x q h = rw q at h

  pub domain_done : (x : Domain) (t : Few Domain) → d ≡ deed.Domain x → t ≡ record { n = s.domains.n + 1; all = set s.domains.all s.domains.n x } → with_domains s t ≡ record_by s d
  domain_done x t q g = rw (q, g)

  pub net_fits : (x : Below) → d ≡ deed.Net x → Fits s d → s.nets.n < 32
  net_fits x q h = rw q at h

  pub net_done : (x : Below) (t : Few Below) → d ≡ deed.Net x → t ≡ record { n = s.nets.n + 1; all = set s.nets.all s.nets.n x } → with_nets s t ≡ record_by s d
  net_done x t q g = rw (q, g)

  pub port_fits : (x : Port) → d ≡ deed.Port x → Fits s d → s.ports.n < 32
  port_fits x q h = rw q at h

  pub port_done : (x : Port) (t : Few Port) → d ≡ deed.Port x → t ≡ record { n = s.ports.n + 1; all = set s.ports.all s.ports.n x } → with_ports s t ≡ record_by s d
  port_done x t q g = rw (q, g)

  pub isolation_fits : (x : Isolation) → d ≡ deed.Isolation x → Fits s d → s.isolations.n < 32
  isolation_fits x q h = rw q at h

  pub isolation_done : (x : Isolation) (t : Few Isolation) → d ≡ deed.Isolation x → t ≡ record { n = s.isolations.n + 1; all = set s.isolations.all s.isolations.n x } → with_isolations s t ≡ record_by s d
  isolation_done x t q g = rw (q, g)

  pub retention_fits : (x : Retention) → d ≡ deed.Retention x → Fits s d → s.retentions.n < 32
  retention_fits x q h = rw q at h

  pub retention_done : (x : Retention) (t : Few Retention) → d ≡ deed.Retention x → t ≡ record { n = s.retentions.n + 1; all = set s.retentions.all s.retentions.n x } → with_retentions s t ≡ record_by s d
  retention_done x t q g = rw (q, g)

  pub shifter_fits : (x : Shifter) → d ≡ deed.Shifter x → Fits s d → s.shifters.n < 32
  shifter_fits x q h = rw q at h

  pub shifter_done : (x : Shifter) (t : Few Shifter) → d ≡ deed.Shifter x → t ≡ record { n = s.shifters.n + 1; all = set s.shifters.all s.shifters.n x } → with_shifters s t ≡ record_by s d
  shifter_done x t q g = rw (q, g)

  pub table_fits : (x : Table) → d ≡ deed.Table x → Fits s d → s.tables.n < 32
  table_fits x q h = rw q at h

  pub table_done : (x : Table) (t : Few Table) → d ≡ deed.Table x → t ≡ record { n = s.tables.n + 1; all = set s.tables.all s.tables.n x } → with_tables s t ≡ record_by s d
  table_done x t q g = rw (q, g)

  pub switch_fits : (x : Switch) (e : ℕ) → d ≡ deed.Switch x e → Fits s d → s.switches.n < 32
  switch_fits x e q h = rw q at h

  pub switch_done : (x : Switch) (e : ℕ) (t : Few Switch) → d ≡ deed.Switch x e → t ≡ record { n = s.switches.n + 1; all = set s.switches.all s.switches.n x } → words_set (with_switches s t) e ≡ record_by s d
  switch_done x e t q g = rw (q, g)

  pub portstate_fits : (x : PortState) (e : ℕ) → d ≡ deed.PortState x e → Fits s d → s.portstates.n < 32
  portstate_fits x e q h = rw q at h

  pub portstate_done : (x : PortState) (e : ℕ) (t : Few PortState) → d ≡ deed.PortState x e → t ≡ record { n = s.portstates.n + 1; all = set s.portstates.all s.portstates.n x } → words_set (with_portstates s t) e ≡ record_by s d
  portstate_done x e t q g = rw (q, g)

  pub supplied_fits : (i : ℕ) (x : Domain) → d ≡ deed.Supplied i x → Fits s d → i < 32
  supplied_fits i x q h = rw q at h

  pub supplied_done : (i : ℕ) (x : Domain) (t : Few Domain) → d ≡ deed.Supplied i x → t ≡ record { n = s.domains.n; all = set s.domains.all i x } → with_domains s t ≡ record_by s d
  supplied_done i x t q g = rw (q, g)

  pub controlled_fits : (i : ℕ) (x : Isolation) → d ≡ deed.Controlled i x → Fits s d → i < 32
  controlled_fits i x q h = rw q at h

  pub controlled_done : (i : ℕ) (x : Isolation) (t : Few Isolation) → d ≡ deed.Controlled i x → t ≡ record { n = s.isolations.n; all = set s.isolations.all i x } → with_isolations s t ≡ record_by s d
  controlled_done i x t q g = rw (q, g)

  pub variable_fits : (a b : Stored) → d ≡ deed.Variable a b → Fits s d → s.variables.n < 64
  variable_fits a b q h = rw q at h

  pub variable_done : (a b : Stored) (t : Variables) → d ≡ deed.Variable a b → t ≡ record { n = s.variables.n + 1; all = set (set (set (set s.variables.all (4 * s.variables.n) a.at) (4 * s.variables.n + 1) a.len) (4 * s.variables.n + 2) b.at) (4 * s.variables.n + 3) b.len } → with_variables s t ≡ record_by s d
  variable_done a b t q g = rw (q, g)

  pub top_done : (x : Option Stored) (t : Head) → d ≡ deed.Top x → t ≡ record { scope = s.head.scope; top = x } → with_head s t ≡ record_by s d
  top_done x t q g = rw (q, g)

-- the other deeds leave the tables as they are
pub done_other : (s : State) (d : Deed) → OneOf (0 ∷ 1 ∷ 2 ∷ 3 ∷ []) (tag_of the_type d) → s ≡ record_by s d
done_other s deed.Nothing h = refl
done_other s deed.Full h = refl
done_other s (deed.Warning kind name) h = refl
done_other s (deed.Row r) h = refl
done_other s (deed.Variable a b) h = absurd (miss (0 ∷ 1 ∷ 2 ∷ 3 ∷ []) 4 tt h)
done_other s (deed.Top t) h = absurd (miss (0 ∷ 1 ∷ 2 ∷ 3 ∷ []) 5 tt h)
done_other s (deed.Domain x) h = absurd (miss (0 ∷ 1 ∷ 2 ∷ 3 ∷ []) 6 tt h)
done_other s (deed.Supplied i x) h = absurd (miss (0 ∷ 1 ∷ 2 ∷ 3 ∷ []) 7 tt h)
done_other s (deed.Net x) h = absurd (miss (0 ∷ 1 ∷ 2 ∷ 3 ∷ []) 8 tt h)
done_other s (deed.Port x) h = absurd (miss (0 ∷ 1 ∷ 2 ∷ 3 ∷ []) 9 tt h)
done_other s (deed.Isolation x) h = absurd (miss (0 ∷ 1 ∷ 2 ∷ 3 ∷ []) 10 tt h)
done_other s (deed.Controlled i x) h = absurd (miss (0 ∷ 1 ∷ 2 ∷ 3 ∷ []) 11 tt h)
done_other s (deed.Retention x) h = absurd (miss (0 ∷ 1 ∷ 2 ∷ 3 ∷ []) 12 tt h)
done_other s (deed.Shifter x) h = absurd (miss (0 ∷ 1 ∷ 2 ∷ 3 ∷ []) 13 tt h)
done_other s (deed.Table x) h = absurd (miss (0 ∷ 1 ∷ 2 ∷ 3 ∷ []) 14 tt h)
done_other s (deed.Switch x e) h = absurd (miss (0 ∷ 1 ∷ 2 ∷ 3 ∷ []) 15 tt h)
done_other s (deed.PortState x e) h = absurd (miss (0 ∷ 1 ∷ 2 ∷ 3 ∷ []) 16 tt h)
