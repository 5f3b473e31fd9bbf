-- A strategy by its number, in the store and as the definitions have it. Assumes nothing.
use Rattle.store.specs.declared.state.Few.{Few}
use Rattle.std.specs.Prelude.{Option, Some}
use Rattle.store.specs.declared.stored.Stored.{Stored}
use Rattle.std.specs.Prelude.{ℕ, Bool, ◌&&◌, [], get_or, None}
use Rattle.text.specs.Ascii.{Bytes}
use Rattle.text.specs.Compare.{same}
use Rattle.out.specs.Bytewise.{dotted}
use Rattle.names.specs.declared.name.Name.{Name}
use Rattle.refs.specs.Text.{no_name}
use Rattle.model.specs.Records.{Isolation as Isolationʳ}
use Rattle.model.specs.Commands.{or_else}
use Rattle.store.specs.Strings.{no_string}
use Rattle.store.specs.View.{isolation_of}
use Rattle.store.specs.declared.state.Isolation.{Isolation}
use Rattle.texts.specs.Isolation.{active_of}
use Rattle.clamps.specs.Values.{stored_name}

-- what stands for a strategy that is not there
abbrev pub no_isolation : Isolation
no_isolation =
    record {
      name = no_string;
      domain = no_string;
      applies = None;
      scope = no_string;
      elements = no_string;
      clamp = None;
      signal = None;
      sense = None;
      power = None;
      ground_net = None;
    }

abbrev pub isolation_at : Few Isolation → ℕ → Isolation
isolation_at t i = get_or t.all i no_isolation

-- as the definitions have it
abbrev pub strategy_at : Bytes → Few Isolation → ℕ → Isolationʳ
strategy_at mem t i = isolation_of mem (isolation_at t i)

-- a signal as a name, and as a text: empty where none is given
abbrev pub signal_name : Option Stored → Name
signal_name None = no_name
signal_name (Some s) = stored_name s

abbrev pub signal_of : Isolationʳ → Bytes
signal_of i = or_else i.signal []

-- the same signal, with `/` as `.`, and the same active value
unfoldable pub are_alike : Isolationʳ → Isolationʳ → Bool
are_alike a b = same (dotted (signal_of a)) (dotted (signal_of b)) && same (active_of a) (active_of b)
