-- `entries::item::count` meets its contract. The entries counted and those that are left are all. Assumes nothing.
use lib.ListN.{drop, length}
use Rattle.entries.specs.Entry.{entries_left}
use Rattle.entries.proofs.Items.{Counts}
use Rattle.entries.proofs.item.count.Given as goal

abbrev pub invariant-loop-item : goal.invariant-loop-item
invariant-loop-item l = Counts l.v l.n l.at l.f

abbrev pub decreases-loop-item : goal.decreases-loop-item
decreases-loop-item l = length (entries_left l.f (drop l.at l.v))
