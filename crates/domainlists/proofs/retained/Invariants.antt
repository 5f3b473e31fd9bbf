-- `domainlists::retained` meets its contract: the entries of the retentions left stand behind those that are there. Assumes nothing.
use mathlib.Core.Path.{◌≡◌}
use mathlib.Core.List.{◌++◌}
use lib.ListN.{length}
use Rattle.domainlists.proofs.Tables.{All}
use Rattle.domainlists.proofs.retained.Given as goal

abbrev pub invariant-loop-i : goal.invariant-loop-i
invariant-loop-i l = (length l.table ≡ length l.initial.table) × All (l.mem.files.now ++ l.mem.area.now) l.t l.initial.table l.table l.n l.i
