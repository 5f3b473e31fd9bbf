-- `listnames::put_entries` meets its contract: what is listed and what is left is the answer. Assumes nothing.
use mathlib.Core.List.{◌++◌}
use lib.ListN.{length, drop}
use Rattle.text.specs.Ascii.{Bytes}
use Rattle.entries.specs.Entry.{entries_left}
use Rattle.listnames.proofs.Turns.{Lists}
use Rattle.listnames.proofs.put_entries.Given as goal

abbrev pub invariant-loop-item : goal.invariant-loop-item
invariant-loop-item l = Lists (λ (b : Bytes). b) (l.mem.files.now ++ l.mem.area.now) l.text l.initial.table l.n l.table l.k l.at l.first

abbrev pub decreases-loop-item : goal.decreases-loop-item
decreases-loop-item l = length (entries_left l.first (drop l.at l.text))
