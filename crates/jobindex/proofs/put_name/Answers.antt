-- `jobindex::put_name` meets its contract.
-- Assumes nothing.
use native.Mathlib.Omega.{arith}
use lib.ListN.{length-set}
use Rattle.jobindex.proofs.put_name.Goals as goal

pub bounds-index-i-2 : goal.bounds-index-i-2
bounds-index-i-2 c = simp length-set (omega arith)
