-- The entries of a stored value as names of a table. Assumes nothing.
use Rattle.std.specs.Prelude.{ℕ, ◌+◌, ◌*◌, ◌≤◌, ◌<◌, ◌^◌, ◌≡◌, refl, Bool, true, false, cond, List, [], ◌∷◌, ◌++◌, length}
use Rattle.std.proofs.Common.{arith}
use Rattle.text.specs.Ascii.{Bytes}
use Rattle.spans.specs.Span.{bytes}
use Rattle.spans.specs.Reach.{Held, reach, held_by, reach_end}
use Rattle.spans.specs.declared.span.Span.{Span}
use Rattle.tcl.specs.Lists.{list}
use Rattle.entries.specs.Entry.{entry_bytes}
use Rattle.names.specs.Scoped.{scoped}
use Rattle.names.specs.Name.{name_of, name_end, entry_of}
use Rattle.names.specs.declared.name.Name.{Name}
use Rattle.names.specs.declared.name.Form.{Form}
use Rattle.names.specs.declared.name.Form.TheVariants.{Entry, Quoted}
use Rattle.model.specs.Records.{no_records, with_scope}
use Rattle.model.specs.Commands.{nth, supply_of}
use Rattle.nametable.specs.Table.{table_names}

-- ---- one entry

-- the form of an entry
abbrev pub form_of : Bool → Form
form_of quoted = cond quoted Quoted Entry

pub form_is : (q : Bool) (w : Bytes) → entry_of (form_of q) w ≡ entry_bytes q w
form_is true w = refl
form_is false w = refl

-- the k-th entry below a scope, empty where it is not there
unfoldable pub nth_below : Bytes → ℕ → List Bytes → Bytes
nth_below scope k [] = []
nth_below scope ℕ.zero (e ∷ es) = scoped scope e
nth_below scope (ℕ.suc k) (e ∷ es) = nth_below scope k es

-- the net that a value of a switch's port names
pub supply_net_lem : (scope : Bytes) (es : List Bytes) → (supply_of (with_scope no_records scope) es).net ≡ nth_below scope 1 es
unfolding nth_below
supply_net_lem scope [] = refl
supply_net_lem scope (p ∷ []) = refl
supply_net_lem scope (p ∷ n ∷ es) = refl

pub supply_port : (scope : Bytes) (es : List Bytes) → (supply_of (with_scope no_records scope) es).port ≡ nth 0 es
supply_port scope [] = refl
supply_port scope (p ∷ []) = refl
supply_port scope (p ∷ n ∷ es) = refl

-- ---- what is asked: a value that lies in the files or in the area

pub record Whole (long : ℕ) (v : Span) : Type 0 where
  pub held : Held long v
  pub small : v.at + v.len < 2 ^ 32

-- as it is where the value reaches no further than the memory
pub whole_by : (long bound : ℕ) (v : Span) → bound < 2 ^ 32 → reach long v ≤ bound → Whole long v
whole_by long bound v small h = record { held = held_by long bound v small h; small = omega (arith, reach_end long v, h) }

-- and room for its entries behind the first n rows of a table
pub record Rooms (files area : Bytes) (scope v : Span) (table : List ℕ) (n : ℕ) : Type 0 where
  pub held : Held (length files) v
  pub scope_small : scope.at + scope.len < 2 ^ 32
  pub small : v.at + v.len < 2 ^ 32
  pub rows : n + length (list (bytes (files ++ area) v)) ≤ 65536
  pub room : 5 * (n + length (list (bytes (files ++ area) v))) ≤ length table

-- the same, where the value's text is at hand
pub record Reads (mem : Bytes) (scope v : Span) (text : Bytes) (table : List ℕ) (n : ℕ) : Type 0 where
  pub is : text ≡ bytes mem v
  pub scope_small : scope.at + scope.len < 2 ^ 32
  pub small : v.at + v.len < 2 ^ 32
  pub rows : n + length (list text) ≤ 65536
  pub room : 5 * (n + length (list text)) ≤ length table

-- ---- what is answered

-- r names: the first n, and these behind them
pub record Listed (mem : Bytes) (table₀ : List ℕ) (n : ℕ) (names : List Bytes) (table : List ℕ) (r : ℕ) : Type 0 where
  pub are : table_names mem table r ≡ table_names mem table₀ n ++ names
  pub count : r ≡ n + length names
  pub long : length table ≡ length table₀

-- r stands for t, and ends by `end`
pub record Known (mem t : Bytes) (end : ℕ) (r : Name) : Type 0 where
  pub is : name_of mem r ≡ t
  pub ends : name_end r ≤ end
