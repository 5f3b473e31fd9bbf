-- The records as numbers, field by field. Assumes nothing.
use Rattle.text.specs.Ascii.{Bytes}
use Rattle.out.specs.Emit.{◌⊕◌}
use Rattle.store.specs.declared.state.Domain.{Domain}
use Rattle.store.specs.declared.state.Port.{Port}
use Rattle.store.specs.declared.state.Switch.{Switch}
use Rattle.store.specs.declared.state.Isolation.{Isolation}
use Rattle.store.specs.declared.state.Retention.{Retention}
use Rattle.store.specs.declared.state.Shifter.{Shifter}
use Rattle.store.specs.declared.state.PortState.{PortState}
use Rattle.store.specs.declared.state.Table.{Table}
use Rattle.dump.specs.Fields.{number_text, flag_text, stored_text, below_text, maybe_text, maybe_below_text}

unfoldable pub domain_text : Domain → Bytes
domain_text x = stored_text x.name ⊕ stored_text x.elements ⊕ flag_text x.whole ⊕ maybe_below_text x.power ⊕ maybe_below_text x.ground_net ⊕ stored_text x.scope

unfoldable pub port_text : Port → Bytes
port_text x = below_text x.name ⊕ maybe_text x.direction

unfoldable pub switch_text : Switch → Bytes
switch_text x = stored_text x.name ⊕ maybe_text x.domain ⊕ stored_text x.scope ⊕ stored_text x.input ⊕ stored_text x.output ⊕ stored_text x.controls ⊕ number_text x.first ⊕ number_text x.ons ⊕ number_text x.offs

unfoldable pub isolation_text : Isolation → Bytes
isolation_text x = stored_text x.name ⊕ stored_text x.domain ⊕ maybe_text x.applies ⊕ stored_text x.scope ⊕ stored_text x.elements ⊕ maybe_text x.clamp ⊕ maybe_text x.signal ⊕ maybe_text x.sense ⊕ maybe_text x.power ⊕ maybe_text x.ground_net

unfoldable pub retention_text : Retention → Bytes
retention_text x = stored_text x.name ⊕ stored_text x.domain ⊕ stored_text x.scope ⊕ stored_text x.elements

unfoldable pub shifter_text : Shifter → Bytes
shifter_text x = stored_text x.name ⊕ stored_text x.domain

unfoldable pub port_state_text : PortState → Bytes
port_state_text x = below_text x.name ⊕ number_text x.first ⊕ number_text x.count

unfoldable pub table_text : Table → Bytes
table_text x = stored_text x.name ⊕ stored_text x.scope ⊕ stored_text x.supplies
