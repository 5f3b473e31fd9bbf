-- `jobindex::row_of` meets its contract. The loop's invariant: the row among all is the row among the first k.
-- Assumes nothing.
use Prim.Native.Nat.{◌≤◌}
use mathlib.Core.Path.{◌≡◌}
use Rattle.jobindex.specs.Index.{named_at, row_of}
use Rattle.jobindex.proofs.row_of.Given as goal

abbrev pub invariant-loop-k : goal.invariant-loop-k
invariant-loop-k l = (l.k ≤ l.count) × (row_of (named_at l.table l.index.job.now l.index.rows.now) l.name l.count ≡ row_of (named_at l.table l.index.job.now l.index.rows.now) l.name l.k)
