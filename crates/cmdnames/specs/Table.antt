-- The number of a name in a list of names. Assumes nothing.
use Rattle.std.proofs.Common.{arith}
use Rattle.std.specs.Prelude.{ℕ, suc, ◌≤◌, ◌≡◌, refl, cond, List, [], ◌∷◌}
use Rattle.text.specs.Ascii.{Bytes}
use Rattle.text.specs.Compare.{same}
use Rattle.model.specs.Names.{command_named}
use Rattle.model.specs.Numbers.{named_by}
use Rattle.cmdnames.specs.declared.Command.{Command}
use Rattle.cmdnames.specs.declared.Command.TheVariants as command

-- the number of the first name that a word is, from 0; how many names there are, where it is none
unfoldable pub number_in : List Bytes → Bytes → ℕ
number_in [] w = 0
number_in (x ∷ xs) w = cond (same w x) 0 (suc (number_in xs w))

-- r is the number of the command that a word names, of the thirty; 30 where it names none
pub record Numbered (w : Bytes) (r : ℕ) : Type 0 where
  pub is : command_named w ≡ named_by r
  pub known : r ≤ 30

-- the place of a command's name in the table; of those that are not simulated the first one's
abbrev pub number_of : Command → ℕ
number_of command.Set = 0
number_of command.Puts = 1
number_of command.LoadUpf = 2
number_of command.SetDesignTop = 3
number_of command.SetScope = 4
number_of command.CreatePowerDomain = 5
number_of command.CreateSupplyNet = 6
number_of command.CreateSupplyPort = 7
number_of command.ConnectSupplyNet = 8
number_of command.SetDomainSupplyNet = 9
number_of command.CreatePowerSwitch = 21
number_of command.SetIsolation = 22
number_of command.SetIsolationControl = 23
number_of command.SetRetention = 24
number_of command.SetRetentionControl = 25
number_of command.SetLevelShifter = 26
number_of command.AddPortState = 27
number_of command.CreatePst = 28
number_of command.AddPstState = 29
number_of command.NotSimulated = 10
number_of command.Unknown = 30

pub known : (c : Command) → number_of c ≤ 30
known command.Set = omega arith
known command.Puts = omega arith
known command.LoadUpf = omega arith
known command.SetDesignTop = omega arith
known command.SetScope = omega arith
known command.CreatePowerDomain = omega arith
known command.CreateSupplyNet = omega arith
known command.CreateSupplyPort = omega arith
known command.ConnectSupplyNet = omega arith
known command.SetDomainSupplyNet = omega arith
known command.CreatePowerSwitch = omega arith
known command.SetIsolation = omega arith
known command.SetIsolationControl = omega arith
known command.SetRetention = omega arith
known command.SetRetentionControl = omega arith
known command.SetLevelShifter = omega arith
known command.AddPortState = omega arith
known command.CreatePst = omega arith
known command.AddPstState = omega arith
known command.NotSimulated = omega arith
known command.Unknown = omega arith

pub no_puts : (c : Command) → (c ≡ command.Puts → ⊥) → number_of c ≡ 1 → ⊥
no_puts command.Set h e = absurd (omega (arith, e))
no_puts command.Puts h e = h refl
no_puts command.LoadUpf h e = absurd (omega (arith, e))
no_puts command.SetDesignTop h e = absurd (omega (arith, e))
no_puts command.SetScope h e = absurd (omega (arith, e))
no_puts command.CreatePowerDomain h e = absurd (omega (arith, e))
no_puts command.CreateSupplyNet h e = absurd (omega (arith, e))
no_puts command.CreateSupplyPort h e = absurd (omega (arith, e))
no_puts command.ConnectSupplyNet h e = absurd (omega (arith, e))
no_puts command.SetDomainSupplyNet h e = absurd (omega (arith, e))
no_puts command.CreatePowerSwitch h e = absurd (omega (arith, e))
no_puts command.SetIsolation h e = absurd (omega (arith, e))
no_puts command.SetIsolationControl h e = absurd (omega (arith, e))
no_puts command.SetRetention h e = absurd (omega (arith, e))
no_puts command.SetRetentionControl h e = absurd (omega (arith, e))
no_puts command.SetLevelShifter h e = absurd (omega (arith, e))
no_puts command.AddPortState h e = absurd (omega (arith, e))
no_puts command.CreatePst h e = absurd (omega (arith, e))
no_puts command.AddPstState h e = absurd (omega (arith, e))
no_puts command.NotSimulated h e = absurd (omega (arith, e))
no_puts command.Unknown h e = absurd (omega (arith, e))

pub no_load : (c : Command) → (c ≡ command.LoadUpf → ⊥) → number_of c ≡ 2 → ⊥
no_load command.Set h e = absurd (omega (arith, e))
no_load command.Puts h e = absurd (omega (arith, e))
no_load command.LoadUpf h e = h refl
no_load command.SetDesignTop h e = absurd (omega (arith, e))
no_load command.SetScope h e = absurd (omega (arith, e))
no_load command.CreatePowerDomain h e = absurd (omega (arith, e))
no_load command.CreateSupplyNet h e = absurd (omega (arith, e))
no_load command.CreateSupplyPort h e = absurd (omega (arith, e))
no_load command.ConnectSupplyNet h e = absurd (omega (arith, e))
no_load command.SetDomainSupplyNet h e = absurd (omega (arith, e))
no_load command.CreatePowerSwitch h e = absurd (omega (arith, e))
no_load command.SetIsolation h e = absurd (omega (arith, e))
no_load command.SetIsolationControl h e = absurd (omega (arith, e))
no_load command.SetRetention h e = absurd (omega (arith, e))
no_load command.SetRetentionControl h e = absurd (omega (arith, e))
no_load command.SetLevelShifter h e = absurd (omega (arith, e))
no_load command.AddPortState h e = absurd (omega (arith, e))
no_load command.CreatePst h e = absurd (omega (arith, e))
no_load command.AddPstState h e = absurd (omega (arith, e))
no_load command.NotSimulated h e = absurd (omega (arith, e))
no_load command.Unknown h e = absurd (omega (arith, e))

pub no_scope : (c : Command) → (c ≡ command.SetScope → ⊥) → number_of c ≡ 4 → ⊥
no_scope command.Set h e = absurd (omega (arith, e))
no_scope command.Puts h e = absurd (omega (arith, e))
no_scope command.LoadUpf h e = absurd (omega (arith, e))
no_scope command.SetDesignTop h e = absurd (omega (arith, e))
no_scope command.SetScope h e = h refl
no_scope command.CreatePowerDomain h e = absurd (omega (arith, e))
no_scope command.CreateSupplyNet h e = absurd (omega (arith, e))
no_scope command.CreateSupplyPort h e = absurd (omega (arith, e))
no_scope command.ConnectSupplyNet h e = absurd (omega (arith, e))
no_scope command.SetDomainSupplyNet h e = absurd (omega (arith, e))
no_scope command.CreatePowerSwitch h e = absurd (omega (arith, e))
no_scope command.SetIsolation h e = absurd (omega (arith, e))
no_scope command.SetIsolationControl h e = absurd (omega (arith, e))
no_scope command.SetRetention h e = absurd (omega (arith, e))
no_scope command.SetRetentionControl h e = absurd (omega (arith, e))
no_scope command.SetLevelShifter h e = absurd (omega (arith, e))
no_scope command.AddPortState h e = absurd (omega (arith, e))
no_scope command.CreatePst h e = absurd (omega (arith, e))
no_scope command.AddPstState h e = absurd (omega (arith, e))
no_scope command.NotSimulated h e = absurd (omega (arith, e))
no_scope command.Unknown h e = absurd (omega (arith, e))

pub no_switch : (c : Command) → (c ≡ command.CreatePowerSwitch → ⊥) → number_of c ≡ 21 → ⊥
no_switch command.Set h e = absurd (omega (arith, e))
no_switch command.Puts h e = absurd (omega (arith, e))
no_switch command.LoadUpf h e = absurd (omega (arith, e))
no_switch command.SetDesignTop h e = absurd (omega (arith, e))
no_switch command.SetScope h e = absurd (omega (arith, e))
no_switch command.CreatePowerDomain h e = absurd (omega (arith, e))
no_switch command.CreateSupplyNet h e = absurd (omega (arith, e))
no_switch command.CreateSupplyPort h e = absurd (omega (arith, e))
no_switch command.ConnectSupplyNet h e = absurd (omega (arith, e))
no_switch command.SetDomainSupplyNet h e = absurd (omega (arith, e))
no_switch command.CreatePowerSwitch h e = h refl
no_switch command.SetIsolation h e = absurd (omega (arith, e))
no_switch command.SetIsolationControl h e = absurd (omega (arith, e))
no_switch command.SetRetention h e = absurd (omega (arith, e))
no_switch command.SetRetentionControl h e = absurd (omega (arith, e))
no_switch command.SetLevelShifter h e = absurd (omega (arith, e))
no_switch command.AddPortState h e = absurd (omega (arith, e))
no_switch command.CreatePst h e = absurd (omega (arith, e))
no_switch command.AddPstState h e = absurd (omega (arith, e))
no_switch command.NotSimulated h e = absurd (omega (arith, e))
no_switch command.Unknown h e = absurd (omega (arith, e))

pub no_port_state : (c : Command) → (c ≡ command.AddPortState → ⊥) → number_of c ≡ 27 → ⊥
no_port_state command.Set h e = absurd (omega (arith, e))
no_port_state command.Puts h e = absurd (omega (arith, e))
no_port_state command.LoadUpf h e = absurd (omega (arith, e))
no_port_state command.SetDesignTop h e = absurd (omega (arith, e))
no_port_state command.SetScope h e = absurd (omega (arith, e))
no_port_state command.CreatePowerDomain h e = absurd (omega (arith, e))
no_port_state command.CreateSupplyNet h e = absurd (omega (arith, e))
no_port_state command.CreateSupplyPort h e = absurd (omega (arith, e))
no_port_state command.ConnectSupplyNet h e = absurd (omega (arith, e))
no_port_state command.SetDomainSupplyNet h e = absurd (omega (arith, e))
no_port_state command.CreatePowerSwitch h e = absurd (omega (arith, e))
no_port_state command.SetIsolation h e = absurd (omega (arith, e))
no_port_state command.SetIsolationControl h e = absurd (omega (arith, e))
no_port_state command.SetRetention h e = absurd (omega (arith, e))
no_port_state command.SetRetentionControl h e = absurd (omega (arith, e))
no_port_state command.SetLevelShifter h e = absurd (omega (arith, e))
no_port_state command.AddPortState h e = h refl
no_port_state command.CreatePst h e = absurd (omega (arith, e))
no_port_state command.AddPstState h e = absurd (omega (arith, e))
no_port_state command.NotSimulated h e = absurd (omega (arith, e))
no_port_state command.Unknown h e = absurd (omega (arith, e))
