-- The answer of a command, and the numbers with its row. Assumes nothing.
use Rattle.std.specs.Prelude.{ℕ, ◌-◌, cond, List, eqb, Option, Some, None}
use Rattle.store.specs.Rows.{row_put_lem}
use Rattle.made.specs.declared.Made.{Made}
use Rattle.scopes.specs.declared.go.Out.{Out}
use Rattle.scopes.specs.declared.go.Stop.TheVariants as stop

-- the numbers with its row, where it has one: the last row that is counted
abbrev pub row_stored : List ℕ → Made → List ℕ
row_stored nums r = cond (eqb r.tag 0) (cond (eqb r.row.kind 0) nums (row_put_lem nums (r.state.fill.rows - 1) r.row)) nums

-- what is refused is past a reading limit
abbrev pub out_of : Made → Out
out_of r = record { stop = cond (eqb r.tag 0) None (Some stop.PastLimit); state = r.state }
