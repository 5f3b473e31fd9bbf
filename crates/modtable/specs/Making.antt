-- What the table is made from, and what each of its parts comes to. Assumes nothing.
use Rattle.std.specs.Prelude.{ℕ, ◌+◌, ◌≤◌, ◌<◌, ◌^◌, ◌≡◌, List, length, take}
use Rattle.text.specs.Ascii.{Bytes}
use Rattle.jobindex.specs.Index.{num, module_row, rows}
use Rattle.lookup.specs.Rows.{modules}
use Rattle.design.specs.Ports.{input_ports, losable}
use Rattle.modtable.specs.Table.{names_at, ways_at, way_place, names_of, ways_of, input_in, ways_down}

-- "per module ports 64, declarations 128, instances 64": a module loses at most 192 names, and has at most 192 non-output ports
pub record Limited (job : Bytes) (index : List ℕ) (k : ℕ) : Type 0 where
  pub inputs_few : length (input_ports (module_row job index k)) ≤ 192
  pub names_few : length (losable (module_row job index k)) ≤ 192
  pub insts_few : length (module_row job index k).insts ≤ 64

-- ---- the non-output ports of module k

pub record InputsGiven (job : Bytes) (index : List ℕ) (k : ℕ) (inputs : List ℕ) : Type 0 where
  pub row : k < 128
  pub long : 384 ≤ length inputs
  pub small : length job < 2 ^ 32
  pub few : length (input_ports (module_row job index k)) ≤ 192

pub record InputsPut (job : Bytes) (index : List ℕ) (k : ℕ) (inputs : List ℕ) (n : ℕ) : Type 0 where
  pub inputs_are : rows (input_in job inputs) n ≡ input_ports (module_row job index k)
  pub few : n ≤ 192

-- ---- the names of module k

pub record NamesGiven (job : Bytes) (index : List ℕ) (k : ℕ) (inputs : List ℕ) (n : ℕ) (table : List ℕ) : Type 0 where
  pub put : InputsPut job index k inputs n
  pub row : k < 128
  pub long : names_at (k + 1) ≤ length table
  pub small : length job < 2 ^ 32
  pub few : length (losable (module_row job index k)) ≤ 192

pub record NamesPut (job : Bytes) (index : List ℕ) (k : ℕ) (table table' : List ℕ) : Type 0 where
  pub front : take (names_at k) table' ≡ take (names_at k) table
  pub names : names_of job table' k ≡ losable (module_row job index k)
  pub few : num table' (names_at k) ≤ 192

-- ---- the instances of module k

pub record WaysGiven (job : Bytes) (index : List ℕ) (count k : ℕ) (table : List ℕ) : Type 0 where
  pub count_few : count ≤ 128
  pub row : k < 128
  pub long : names_at (k + 1) ≤ length table
  pub small : length job < 2 ^ 32
  pub few : length (module_row job index k).insts ≤ 64

pub record WaysPut (job : Bytes) (index : List ℕ) (count k : ℕ) (table table' : List ℕ) : Type 0 where
  pub front : take (ways_at k) table' ≡ take (ways_at k) table
  pub ways : ways_of job index table' k ≡ ways_down (modules job index count) (module_row job index k).insts
  pub few : num table' (ways_at k) ≤ 64
  pub within : (j : ℕ) → j < num table' (ways_at k) → num table' (way_place k j + 2) < count

-- ---- all

pub record MakeGiven (job : Bytes) (index : List ℕ) (count : ℕ) (inputs table : List ℕ) : Type 0 where
  pub inputs_long : 384 ≤ length inputs
  pub few : count ≤ 128
  pub long : names_at count ≤ length table
  pub small : length job < 2 ^ 32
  pub limited : (k : ℕ) → k < count → Limited job index k
