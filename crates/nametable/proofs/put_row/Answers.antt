-- `nametable::put_row` meets its contract. Assumes nothing.
use native.Mathlib.Omega.{arith}
use lib.ListN.{length-set}
use Rattle.nametable.proofs.Rows.{puts}
use Rattle.nametable.proofs.put_row.Goals as goal

pub bounds-table-i-2 : goal.bounds-table-i-2
bounds-table-i-2 c = simp length-set (omega arith)

pub bounds-table-i-3 : goal.bounds-table-i-3
bounds-table-i-3 c = simp length-set (omega arith)

pub bounds-table-i-4 : goal.bounds-table-i-4
bounds-table-i-4 c = simp length-set (omega arith)

pub bounds-table-i-5 : goal.bounds-table-i-5
bounds-table-i-5 c = simp length-set (omega arith)

pub returns : goal.returns
returns c = search puts
