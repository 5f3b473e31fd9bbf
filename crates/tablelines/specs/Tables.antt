-- The lines of tables by the texts that stand in them, and what is asked of the stored tables and rows. Assumes nothing.
use Rattle.store.specs.declared.state.Few.{Few}
use Rattle.std.specs.Prelude.{ℕ, ◌≤◌, ◌<◌, ◌^◌, Bool, ◌&&◌, eqb, length, take}
use mathlib.Core.List.{List, ◌++◌, map, flat_map}
use Rattle.text.specs.Ascii.{Bytes, ascii}
use Rattle.out.specs.Fill.{format2, format3}
use Rattle.out.specs.Items.{joined}
use Rattle.tcl.specs.Lists.{list}
use Rattle.model.specs.Records.{TableState, Table as Tableʳ}
use Rattle.texts.specs.Texts.{table_state}
use Rattle.store.specs.Strings.{string}
use Rattle.store.specs.View.{list_below, states_of, table_of, numbered}
use Rattle.store.specs.Order.{Within, of_row, of_table}
use Rattle.store.specs.Rows.{rows_in}
use Rattle.store.specs.declared.row.Row.{Row}
use Rattle.store.specs.declared.state.Table.{Table}
use Rattle.made.specs.Made.{reach_of}
use Rattle.readfacts.specs.Few.{most_values}
use Rattle.setting.specs.Orders.{Holds}

-- ---- texts

abbrev pub state_text : Bytes → List Bytes → Bytes
state_text name values = format2 "{0}={{{1}}}" name (joined (ascii " ") values)

abbrev pub table_text : Bytes → List Bytes → List TableState → Bytes
table_text name supplies states = format3 "PST {0} over [{1}]: {2}\n" name (joined (ascii ", ") supplies) (joined (ascii " ") (map table_state states))

-- ---- rows

abbrev pub is_state : ℕ → Row → Bool
is_state k r = eqb r.kind 2 && eqb r.scope.at k

abbrev pub state_of : Bytes → Row → TableState
state_of mem r = record { name = string mem r.name; values = list (string mem r.value) }

-- ---- what is asked: strings that lie in the files or in the area, and few values

pub record OfState (files area : Bytes) (r : Row) : Type 0 where
  pub small : length (files ++ area) < 2 ^ 32
  pub strings : of_row (reach_of (length files)) r ≤ length (files ++ area)
  pub few : length (list (string (files ++ area) r.value)) ≤ 64

pub record OfStates (files area : Bytes) (nums : List ℕ) (rows k : ℕ) : Type 0 where
  pub small : length (files ++ area) < 2 ^ 32
  pub rows_few : rows ≤ 1024
  pub strings : Within (of_row (reach_of (length files))) (length (files ++ area)) (rows_in nums rows)
  pub few : most_values (flat_map (states_of (files ++ area) k) (rows_in nums rows)) ≤ 64

pub record OfTable (files area : Bytes) (nums : List ℕ) (rows k : ℕ) (x : Table) : Type 0 where
  pub states : OfStates files area nums rows k
  pub strings : of_table (reach_of (length files)) x ≤ length (files ++ area)
  pub few : length (list_below (files ++ area) x.scope x.supplies) ≤ 64

pub record OfTables (files area : Bytes) (nums : List ℕ) (rows : ℕ) (t : Few Table) : Type 0 where
  pub small : length (files ++ area) < 2 ^ 32
  pub rows_few : rows ≤ 1024
  pub strings : Within (of_row (reach_of (length files))) (length (files ++ area)) (rows_in nums rows)
  pub holds : Holds (of_table (reach_of (length files))) (length (files ++ area)) t.n t.all
  pub supplies : Within (λ (x : Tableʳ). length x.supplies) 64 (numbered (table_of (files ++ area) (rows_in nums rows)) 0 (take t.n t.all))
  pub states : Within (λ (x : Tableʳ). most_values x.states) 64 (numbered (table_of (files ++ area) (rows_in nums rows)) 0 (take t.n t.all))
