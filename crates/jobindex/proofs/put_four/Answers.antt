-- `jobindex::put_four` meets its contract.
-- Assumes nothing.
use native.Mathlib.Omega.{arith}
use lib.ListN.{length-set}
use Rattle.jobindex.proofs.put_four.Goals as goal

pub bounds-index-i-2 : goal.bounds-index-i-2
bounds-index-i-2 c = simp length-set (omega arith)

pub bounds-index-i-3 : goal.bounds-index-i-3
bounds-index-i-3 c = simp length-set (omega arith)

pub bounds-index-i-4 : goal.bounds-index-i-4
bounds-index-i-4 c = simp length-set (omega arith)
