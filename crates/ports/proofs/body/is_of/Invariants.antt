use Rattle.ports.specs.Bodies.{picked}
use Rattle.design.specs.Lists.{is_in}
use Rattle.joblines.specs.Sections.{decls_in}
use Rattle.jobindex.specs.Index.{section}
use Prim.Native.Nat.{◌-◌}
use mathlib.Core.Path.{◌≡◌}
use Rattle.ports.proofs.body.is_of.Given as goal

abbrev pub invariant-loop-own : goal.invariant-loop-own
invariant-loop-own l = is_in l.name (picked l.pick (decls_in (section l.job l.at l.end))) ≡ is_in l.name (picked l.pick (decls_in (section l.job l.i l.end)))

abbrev pub decreases-loop-own : goal.decreases-loop-own
decreases-loop-own l = l.end - l.i
