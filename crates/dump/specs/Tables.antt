-- The tables of the state as numbers, and all of it. Assumes nothing.
use Rattle.std.specs.Prelude.{ℕ, ◌≤◌, List, take}
use Rattle.text.specs.Ascii.{Bytes}
use Rattle.out.specs.Emit.{◌⊕◌}
use Rattle.out.specs.Items.{each}
use Rattle.store.specs.declared.state.State.{State}
use Rattle.dump.specs.Fields.{number_text, below_text, maybe_text, stored_text}
use Rattle.dump.specs.Records.{domain_text, port_text, switch_text, isolation_text, retention_text, shifter_text, port_state_text, table_text as record_text}

-- how many records a table has, then these
unfoldable pub table_text : {A : Type 0} → (A → Bytes) → ℕ → List A → Bytes
table_text f n all = number_text n ⊕ each f (take n all)

-- the design top, the scope, how many rows the store has
unfoldable pub head_text : State → Bytes
head_text s = maybe_text s.head.top ⊕ stored_text s.head.scope ⊕ number_text s.fill.rows

unfoldable pub state_text : State → Bytes
state_text s =
    head_text s ⊕ table_text domain_text s.domains.n s.domains.all ⊕ table_text below_text s.nets.n s.nets.all ⊕ table_text port_text s.ports.n s.ports.all
    ⊕ table_text switch_text s.switches.n s.switches.all ⊕ table_text isolation_text s.isolations.n s.isolations.all
    ⊕ table_text retention_text s.retentions.n s.retentions.all ⊕ table_text shifter_text s.shifters.n s.shifters.all
    ⊕ table_text port_state_text s.portstates.n s.portstates.all ⊕ table_text record_text s.tables.n s.tables.all

-- each table has at most as many records as its array
pub record Few (s : State) : Type 0 where
  pub domains : s.domains.n ≤ 32
  pub nets : s.nets.n ≤ 32
  pub ports : s.ports.n ≤ 32
  pub switches : s.switches.n ≤ 32
  pub isolations : s.isolations.n ≤ 32
  pub retentions : s.retentions.n ≤ 32
  pub shifters : s.shifters.n ≤ 32
  pub portstates : s.portstates.n ≤ 32
  pub tables : s.tables.n ≤ 32
