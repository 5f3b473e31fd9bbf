-- `domainlists::retained_of` meets its contract: the entries of the retentions left stand behind those that are there. Assumes nothing.
use mathlib.Core.Path.{◌≡◌}
use mathlib.Core.List.{◌++◌}
use lib.ListN.{length}
use Rattle.domainlists.proofs.Tables.{Own}
use Rattle.domainlists.proofs.retained_of.Given as goal

abbrev pub invariant-loop-i : goal.invariant-loop-i
invariant-loop-i l = (length l.table ≡ length l.initial.table) × Own (l.mem.files.now ++ l.mem.area.now) l.t l.domain l.initial.table l.table l.n l.i
