-- The supply nets of the stored records, and what is asked of these. Assumes nothing.
use Rattle.store.specs.declared.state.Few.{Few}
use Rattle.store.specs.declared.stored.Below.{Below}
use Rattle.std.specs.Prelude.{ℕ, ◌+◌, ◌*◌, ◌≤◌, ◌<◌, ◌^◌, ◌≡◌, Bool, not, length, take}
use mathlib.Core.List.{List, [], ◌∷◌, ◌++◌, map, flat_map}
use Rattle.text.specs.Ascii.{Bytes}
use Rattle.text.specs.Compare.{same}
use Rattle.spans.specs.Span.{bytes}
use Rattle.spans.specs.Reach.{reach}
use Rattle.spans.specs.declared.span.Span.{Span}
use Rattle.tcl.specs.Lists.{list}
use Rattle.names.specs.Scoped.{scoped}
use Rattle.names.specs.Name.{name_of, name_end}
use Rattle.names.specs.declared.name.Name.{Name}
use Rattle.nametable.specs.Table.{table_names}
use Rattle.listnames.specs.Lists.{nth_below}
use Rattle.design.specs.Lists.{those, add_all}
use Rattle.model.specs.Records.{Connection}
use Rattle.texts.specs.Supplies.{net_of}
use Rattle.store.specs.Strings.{string, below_of}
use Rattle.store.specs.View.{connections_of}
use Rattle.store.specs.Order.{Within, of_below, of_port, of_switch, of_row}
use Rattle.store.specs.Rows.{rows_in}
use Rattle.store.specs.declared.stored.Stored.{Stored}
use Rattle.store.specs.declared.row.Row.{Row}
use Rattle.store.specs.declared.state.Port.{Port}
use Rattle.store.specs.declared.state.Switch.{Switch}
use Rattle.made.specs.Made.{reach_of}
use Rattle.setting.specs.Orders.{Holds}

-- ---- the nets

-- whether an entry below a scope is a name
abbrev pub is_below : Bytes → Span → Name → Bytes → Bool
is_below mem scope p t = same (scoped (bytes mem scope) t) (name_of mem p)

abbrev pub port_net : Bytes → List Connection → Port → Bytes
port_net mem cs p = net_of cs (below_of mem p.name) (below_of mem p.name)

-- a switch's net: the second entry of a port's value, below the scope
abbrev pub supply_net : Bytes → Stored → Stored → Bytes
supply_net mem scope v = nth_below (string mem scope) 1 (list (string mem v))

abbrev pub both_nets : Bytes → Switch → List Bytes
both_nets mem x = supply_net mem x.scope x.input ∷ supply_net mem x.scope x.output ∷ []

abbrev pub has_name : Bytes → Bool
has_name n = not (same n [])

abbrev pub ports_nets : Bytes → List Row → Few Port → List Bytes
ports_nets mem rows ports = map (port_net mem (flat_map (connections_of mem) rows)) (take ports.n ports.all)

abbrev pub switches_nets : Bytes → Few Switch → List Bytes
switches_nets mem switches = those has_name (flat_map (both_nets mem) (take switches.n switches.all))

-- created nets, nets of ports, nets of switches; each one time
abbrev pub nets_of : Bytes → List Row → Few Below → Few Port → Few Switch → List Bytes
nets_of mem rows nets ports switches = add_all (map (below_of mem) (take nets.n nets.all)) (ports_nets mem rows ports ++ switches_nets mem switches)

-- ---- what is asked

-- the text of a value is at hand
pub record Reads (mem : Bytes) (v : Span) (text : Bytes) : Type 0 where
  pub is : text ≡ bytes mem v
  pub small : v.at + v.len < 2 ^ 32

-- a row's strings and a name lie within the memory
pub record Connects (files area : Bytes) (r : Row) (net : Name) : Type 0 where
  pub small : length (files ++ area) < 2 ^ 32
  pub strings : of_row (reach_of (length files)) r ≤ length (files ++ area)
  pub ends : name_end net ≤ length (files ++ area)

-- those of all rows
pub record Rowed (files area : Bytes) (nums : List ℕ) (rows : ℕ) (p : Name) : Type 0 where
  pub small : length (files ++ area) < 2 ^ 32
  pub few : rows ≤ 1024
  pub strings : Within (of_row (reach_of (length files))) (length (files ++ area)) (rows_in nums rows)
  pub ends : name_end p ≤ length (files ++ area)

-- there is a row for one name more, and it can be stored
pub record Adds (mem : Bytes) (table : List ℕ) (n : ℕ) (x : Name) : Type 0 where
  pub small : length mem < 2 ^ 32
  pub ends : name_end x ≤ length mem
  pub few : n ≤ 128
  pub room : 5 * n + 5 ≤ length table

pub record Creates (files area : Bytes) (t : Few Below) (table : List ℕ) : Type 0 where
  pub small : length (files ++ area) < 2 ^ 32
  pub nets : Holds (of_below (reach_of (length files))) (length (files ++ area)) t.n t.all
  pub room : 640 ≤ length table

pub record OfPorts (files area : Bytes) (nums : List ℕ) (m : ℕ) (t : Few Port) (table : List ℕ) (n : ℕ) : Type 0 where
  pub small : length (files ++ area) < 2 ^ 32
  pub few : m ≤ 1024
  pub strings : Within (of_row (reach_of (length files))) (length (files ++ area)) (rows_in nums m)
  pub ports : Holds (of_port (reach_of (length files))) (length (files ++ area)) t.n t.all
  pub rows : n ≤ 32
  pub room : 640 ≤ length table

-- a port's name lies within the memory, and there is a row for its net
pub record OfPort (files area : Bytes) (nums : List ℕ) (m : ℕ) (p : Port) (table : List ℕ) (k : ℕ) : Type 0 where
  pub small : length (files ++ area) < 2 ^ 32
  pub few : m ≤ 1024
  pub strings : Within (of_row (reach_of (length files))) (length (files ++ area)) (rows_in nums m)
  pub port : of_port (reach_of (length files)) p ≤ length (files ++ area)
  pub count : k ≤ 128
  pub room : 5 * k + 5 ≤ length table

-- a value and its scope lie within the memory, and there is a row for its net
pub record OfSupply (files area : Bytes) (scope v : Span) (table : List ℕ) (k : ℕ) : Type 0 where
  pub small : length (files ++ area) < 2 ^ 32
  pub scope_ends : scope.at + scope.len ≤ length (files ++ area)
  pub value : reach (length files) v ≤ length (files ++ area)
  pub count : k ≤ 128
  pub room : 5 * k + 5 ≤ length table

-- the strings of a switch lie within the memory, and there are two rows for its nets
pub record OfSwitch (files area : Bytes) (w : Switch) (table : List ℕ) (k : ℕ) : Type 0 where
  pub small : length (files ++ area) < 2 ^ 32
  pub switch : of_switch (reach_of (length files)) w ≤ length (files ++ area)
  pub count : k ≤ 127
  pub room : 5 * k + 10 ≤ length table

pub record OfSwitches (files area : Bytes) (t : Few Switch) (table : List ℕ) (n : ℕ) : Type 0 where
  pub small : length (files ++ area) < 2 ^ 32
  pub switches : Holds (of_switch (reach_of (length files))) (length (files ++ area)) t.n t.all
  pub rows : n ≤ 64
  pub room : 640 ≤ length table

-- ---- what is answered

-- a table of r names, m at most
pub record Names (mem : Bytes) (names : List Bytes) (m : ℕ) (table₀ table : List ℕ) (r : ℕ) : Type 0 where
  pub are : table_names mem table r ≡ names
  pub count : r ≤ m
  pub long : length table ≡ length table₀
