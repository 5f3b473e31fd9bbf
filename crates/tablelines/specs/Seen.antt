-- Laws: stored records in order give what is asked, and the lines are those of the records that they stand for. Assumes nothing.
use Rattle.std.specs.Prelude.{ℕ, ◌≡◌, List, take}
use Rattle.text.specs.Ascii.{Bytes}
use Rattle.out.specs.Items.{each}
use Rattle.texts.specs.Setting.{Setting}
use Rattle.texts.specs.Texts.{table_line}
use Rattle.store.specs.View.{table_of, numbered, model_of}
use Rattle.store.specs.Rows.{rows_in, store_of}
use Rattle.store.specs.declared.state.State.{State}
use Rattle.setting.specs.Orders.{Orders, tables_hold}
use Rattle.tablelines.specs.Tables.{OfTables}

pub orders_tables : (files area : Bytes) (nums : List ℕ) (s : State) → Orders files area nums s → OfTables files area nums s.fill.rows s.tables
unfolding model_of
orders_tables files area nums s o =
    record {
      small = o.small;
      rows_few = o.rows;
      strings = o.bounded.rows;
      holds = tables_hold files area nums s o;
      supplies = o.few.tables;
      states = o.few.states;
    }

pub tables_seen : (mem : Bytes) (nums : List ℕ) (s : State) (log : Bytes) (t : Setting) → t.records ≡ model_of mem (store_of nums s) s log → each table_line (numbered (table_of mem (rows_in nums s.fill.rows)) 0 (take s.tables.n s.tables.all)) ≡ each table_line t.records.tables
unfolding model_of
tables_seen mem nums s log t e = rw e
