-- "The command names stand in one constant table": thirty names. Assumes nothing.
use Prim.Native.String.{String}
use Rattle.std.specs.Prelude.{Bool, List, [], ◌∷◌, Option, None, Some}
use Rattle.text.specs.Ascii.{Bytes, ascii}
use Rattle.text.specs.Compare.{starts_with}
use Rattle.fields.specs.Fields.{among}

-- a command that moves no scope
pub data Command : Type 0 where
  set puts set_design_top create_power_domain create_supply_net create_supply_port connect_supply_net set_domain_supply_net : Command
  create_power_switch set_isolation set_isolation_control set_retention set_retention_control set_level_shifter add_port_state create_pst add_pst_state : Command
  -- "parsed but not simulated"
  not_simulated : Command

-- what a name stands for
pub data Named : Type 0 where
  load_upf set_scope : Named
  other : Command → Named
  -- no name of the table
  unknown : Named

abbrev pub names : List (String × Named)
names =
    ("set", other set) ∷ ("puts", other puts) ∷ ("load_upf", load_upf) ∷ ("set_design_top", other set_design_top) ∷ ("set_scope", set_scope)
    ∷ ("create_power_domain", other create_power_domain) ∷ ("create_supply_net", other create_supply_net) ∷ ("create_supply_port", other create_supply_port)
    ∷ ("connect_supply_net", other connect_supply_net) ∷ ("set_domain_supply_net", other set_domain_supply_net)
    ∷ ("create_supply_set", other not_simulated) ∷ ("associate_supply_set", other not_simulated) ∷ ("add_power_state", other not_simulated)
    ∷ ("set_port_attributes", other not_simulated) ∷ ("set_design_attributes", other not_simulated) ∷ ("upf_version", other not_simulated)
    ∷ ("create_logic_net", other not_simulated) ∷ ("create_logic_port", other not_simulated) ∷ ("connect_logic_net", other not_simulated)
    ∷ ("set_partial_on_translation", other not_simulated) ∷ ("set_simstate_behavior", other not_simulated)
    ∷ ("create_power_switch", other create_power_switch) ∷ ("set_isolation", other set_isolation) ∷ ("set_isolation_control", other set_isolation_control)
    ∷ ("set_retention", other set_retention) ∷ ("set_retention_control", other set_retention_control) ∷ ("set_level_shifter", other set_level_shifter)
    ∷ ("add_port_state", other add_port_state) ∷ ("create_pst", other create_pst) ∷ ("add_pst_state", other add_pst_state) ∷ []

abbrev pub or_unknown : Option Named → Named
or_unknown None = unknown
or_unknown (Some c) = c

unfoldable pub command_named : Bytes → Named
command_named w = or_unknown (among names w)

-- "one that starts with the six bytes `query_` passes unremarked"
abbrev pub is_query : Bytes → Bool
is_query w = starts_with (ascii "query_") w
