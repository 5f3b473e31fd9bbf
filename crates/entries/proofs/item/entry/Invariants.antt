-- `entries::item::entry` meets its contract. What is left of the value has the entry. Assumes nothing.
use lib.ListN.{drop, length}
use Rattle.tcl.specs.Lists.{list}
use Rattle.entries.specs.Entry.{entries_left}
use Rattle.entries.proofs.Items.{Skips}
use Rattle.entries.proofs.item.entry.Given as goal

abbrev pub invariant-loop-item : goal.invariant-loop-item
invariant-loop-item l = Skips l.v (drop l.k (list l.v)) l.left l.at l.f

abbrev pub decreases-loop-item : goal.decreases-loop-item
decreases-loop-item l = length (entries_left l.f (drop l.at l.v))
