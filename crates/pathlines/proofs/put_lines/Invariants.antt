-- `pathlines::put_lines` meets its contract: the lines of the paths left are written behind what was. Assumes nothing.
use Prim.Native.Nat.{◌-◌}
use mathlib.Core.Path.{◌≡◌}
use lib.ListN.{length}
use Rattle.out.specs.Emit.{emit}
use Rattle.out.specs.Text.{shown, SameRoom}
use Rattle.out.specs.Items.{each}
use Rattle.scope.specs.Parts.{parts}
use Rattle.listing.specs.Listing.{paths_of}
use Rattle.pathlines.specs.Lines.{line_of}
use Rattle.pathlines.proofs.Writes.{Left}
use Rattle.pathlines.proofs.put_lines.Given as goal

abbrev pub invariant-loop-k : goal.invariant-loop-k
invariant-loop-k l = SameRoom l.initial.to l.to
    × Left (line_of l.before l.after (parts l.scope.over.now l.scope.from)) l.listed.text.now l.listed.ends.now l.listed.n (emit (shown l.initial.to) (each (line_of l.before l.after (parts l.scope.over.now l.scope.from)) (paths_of l.listed.text.now l.listed.ends.now l.listed.n))) (shown l.to) l.k l.a
