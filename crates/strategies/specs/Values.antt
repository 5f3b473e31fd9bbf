-- Values of a strategy as names. Assumes nothing.
use Rattle.std.specs.Prelude.{Option, Some, None}
use Rattle.store.specs.declared.stored.Stored.{Stored}
use Rattle.std.specs.Prelude.{ℕ}
use Rattle.names.specs.declared.name.Name.{Name}
use Rattle.store.specs.declared.state.Isolation.{Isolation}
use Rattle.cover.specs.declared.Strategy.{Strategy}
use Rattle.refs.specs.Text.{no_name}
use Rattle.clamps.specs.Values.{stored_name}

abbrev pub given_name : Option Stored → Name
given_name None = no_name
given_name (Some s) = stored_name s

abbrev pub strategy_of : ℕ → Isolation → Strategy
strategy_of n x = record { number = n; name = stored_name x.name }
