-- `supplies::nets::has_entry` meets its contract: whether the name is among the entries that are left. Assumes nothing.
use mathlib.Core.List.{◌++◌}
use lib.ListN.{length, drop}
use Rattle.text.specs.Scan.{any}
use Rattle.tcl.specs.Lists.{list}
use Rattle.entries.specs.Entry.{entries_left}
use Rattle.supplies.specs.Nets.{is_below}
use Rattle.supplies.proofs.Rows.{Tests}
use Rattle.supplies.proofs.nets.has_entry.Given as goal

abbrev pub invariant-loop-i : goal.invariant-loop-i
invariant-loop-i l = Tests (l.mem.files.now ++ l.mem.area.now) l.scope l.p l.text (any (is_below (l.mem.files.now ++ l.mem.area.now) l.scope l.p) (list l.text)) l.at l.first

abbrev pub decreases-loop-i : goal.decreases-loop-i
decreases-loop-i l = length (entries_left l.first (drop l.at l.text))
