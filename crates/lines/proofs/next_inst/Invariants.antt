use Rattle.joblines.specs.Sections.{insts_in}
use Rattle.jobindex.specs.Index.{section}
use Rattle.lines.specs.Steps.{Passed}
use Prim.Native.Nat.{◌-◌}
use mathlib.Core.Path.{◌≡◌}
use Rattle.lines.proofs.next_inst.Given as goal

abbrev pub invariant-loop-e : goal.invariant-loop-e
invariant-loop-e l = Passed l.job l.at l.i × (insts_in (section l.job l.at l.end) ≡ insts_in (section l.job l.i l.end))

abbrev pub decreases-loop-e : goal.decreases-loop-e
decreases-loop-e l = l.end - l.i
