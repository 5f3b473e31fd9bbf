-- `corrupt::marks::mark` meets its contract: the first k entries are marked. Assumes nothing.
use mathlib.Core.Path.{◌≡◌}
use mathlib.Core.List.{◌++◌}
use lib.ListN.{length}
use Rattle.corrupt.proofs.Marking.{Marks}
use Rattle.corrupt.proofs.marks.mark.Given as goal

abbrev pub invariant-loop-k : goal.invariant-loop-k
invariant-loop-k l = (length l.marks ≡ length l.initial.marks) × Marks (l.mem.files.now ++ l.mem.area.now) l.table.rows.now l.table.n l.marks l.k
