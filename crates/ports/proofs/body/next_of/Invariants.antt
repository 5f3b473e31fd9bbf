use Rattle.ports.specs.Bodies.{picked}
use Rattle.lines.specs.Steps.{Passed}
use Rattle.joblines.specs.Sections.{decls_in}
use Rattle.jobindex.specs.Index.{section}
use Prim.Native.Nat.{◌-◌}
use mathlib.Core.Path.{◌≡◌}
use Rattle.ports.proofs.body.next_of.Given as goal

abbrev pub invariant-loop-e : goal.invariant-loop-e
invariant-loop-e l = Passed l.job l.at l.i × (picked l.pick (decls_in (section l.job l.at l.end)) ≡ picked l.pick (decls_in (section l.job l.i l.end)))

abbrev pub decreases-loop-e : goal.decreases-loop-e
decreases-loop-e l = l.end - l.i
