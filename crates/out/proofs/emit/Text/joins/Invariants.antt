use mathlib.Core.List.{[]}
use Rattle.out.specs.Emit.{emit}
use Rattle.out.specs.Text.{shown, SameRoom}
use Rattle.out.specs.Fill.{fill}
use mathlib.Core.List.{map}
use Rattle.out.specs.Items.{parts, joined, Joins}
use Prim.Native.Nat.{◌≤◌, ◌-◌}
use lib.ListN.{length}
use Rattle.out.proofs.emit.Text.joins.Given as goal

abbrev pub invariant-loop-i : goal.invariant-loop-i
invariant-loop-i l = (l.i ≤ length l.spans) × (SameRoom l.initial.self l.self × Joins (λ x. fill l.t x [] [] [] []) l.sep l.area l.spans (emit (shown l.initial.self) (joined l.sep (map (λ x. fill l.t x [] [] [] []) (parts l.area l.spans)))) (shown l.self) l.i)

abbrev pub decreases-loop-i : goal.decreases-loop-i
decreases-loop-i l = length l.spans - l.i
