-- "Command by command, before it acts: within the reading limits?" What counts towards the limits, and when a command is within them. Assumes nothing.
use Rattle.std.specs.Prelude.{ℕ, ◌+◌, Bool, ◌&&◌, List, [], ◌∷◌, ◌++◌, map, leb, length, Option, None, Some}
use Prim.Native.String.{String}
use Rattle.text.specs.Ascii.{Bytes, ascii}
use Rattle.text.specs.Scan.{all}
use Rattle.tcl.specs.Lists.{list}
use Rattle.tcl.specs.Arguments.{option_of, State}
use Rattle.model.specs.Limits.{most_commands, most_words, most_substituted, most_sets, most_scope, most_scopes, most_entries, most_all_entries, most_records, most_warnings}
use Rattle.model.specs.Records.{Model}
use Rattle.model.specs.Names.{Command, Named}
use Rattle.model.specs.Commands.{switch_states, port_states}

-- ---- the values that a command reads as lists, each where the Rust does so

abbrev pub option_value : String → List Bytes → List Bytes
option_value key ws = values (option_of (ascii key) ws)
  where
    values : Option Bytes → List Bytes
    values None = []
    values (Some v) = v ∷ []

abbrev pub state_values : List State → List Bytes
state_values ss = map (λ (s : State). s.value) ss

abbrev pub lists_of : Command → Bytes → List Bytes → List Bytes
lists_of Command.set w ws = []
lists_of Command.puts w ws = []
lists_of Command.set_design_top w ws = []
lists_of Command.create_power_domain w ws = option_value "-elements" ws
lists_of Command.create_supply_net w ws = []
lists_of Command.create_supply_port w ws = []
lists_of Command.connect_supply_net w ws = option_value "-ports" ws
lists_of Command.set_domain_supply_net w ws = []
lists_of Command.create_power_switch w ws =
    option_value "-control_port" ws ++ (state_values (switch_states w ws) ++ (option_value "-input_supply_port" ws ++ option_value "-output_supply_port" ws))
lists_of Command.set_isolation w ws = option_value "-elements" ws
lists_of Command.set_isolation_control w ws = []
lists_of Command.set_retention w ws = option_value "-elements" ws
lists_of Command.set_retention_control w ws = []
lists_of Command.set_level_shifter w ws = []
lists_of Command.add_port_state w ws = state_values (port_states w ws)
lists_of Command.create_pst w ws = option_value "-supplies" ws
lists_of Command.add_pst_state w ws = option_value "-state" ws
lists_of Command.not_simulated w ws = []

abbrev pub lists_by : Named → Bytes → List Bytes → List Bytes
lists_by Named.load_upf w ws = []
lists_by Named.set_scope w ws = []
lists_by (Named.other c) w ws = lists_of c w ws
lists_by Named.unknown w ws = []

unfoldable pub total : List ℕ → ℕ
total [] = 0
total (n ∷ ns) = n + total ns

abbrev pub entries_of : List Bytes → List ℕ
entries_of vs = map (λ (v : Bytes). length (list v)) vs

-- ---- what has been counted so far, through all files
pub record Counted : Type 0 where
  -- commands carried out
  pub commands : ℕ
  -- "result bytes of all quoted words and plain words with a `$`"
  pub substituted : ℕ
  -- the bytes of all scopes from `set_scope` and `load_upf -scope`
  pub scopes : ℕ
  -- the entries of all values read as lists
  pub entries : ℕ

abbrev pub nothing_counted : Counted
nothing_counted = record { commands = 0; substituted = 0; scopes = 0; entries = 0 }

-- of the records: "32 of each", 64 sets, 256 warnings, a scope of 512 bytes
abbrev pub records_fit : Model → Bool
records_fit m =
    leb (length m.domains) most_records
    && (leb (length m.nets) most_records
    && (leb (length m.ports) most_records
    && (leb (length m.switches) most_records
    && (leb (length m.isolations) most_records
    && (leb (length m.retentions) most_records
    && (leb (length m.shifters) most_records
    && (leb (length m.port_states) most_records
    && (leb (length m.tables) most_records
    && (leb (length m.variables) most_sets
    && (leb (length m.warnings) most_warnings
    && leb (length m.scope) most_scope))))))))))

abbrev pub counts_fit : Counted → Bool
counts_fit n =
    leb n.commands most_commands
    && (leb n.substituted most_substituted && (leb n.scopes most_scopes && leb n.entries most_all_entries))

-- a command is within the limits where all that it would leave is: `lists` has the entries of each value that it reads as a list
abbrev pub within : ℕ → List ℕ → Counted → Model → Bool
within words lists n m = leb words most_words && (all (λ k. leb k most_entries) lists && (counts_fit n && records_fit m))
