-- `entries::item::next_entry` meets its contract. What is left of the value has the entries. Assumes nothing.
use Prim.Native.Nat.{◌-◌}
use lib.ListN.{drop, length}
use Rattle.entries.specs.Entry.{entries_left}
use Rattle.entries.proofs.Items.{Left}
use Rattle.entries.proofs.item.next_entry.Given as goal

abbrev pub invariant-loop-i : goal.invariant-loop-i
invariant-loop-i l = Left l.v (entries_left l.first (drop l.at l.v)) l.i l.f

abbrev pub decreases-loop-i : goal.decreases-loop-i
decreases-loop-i l = length l.v - l.i
