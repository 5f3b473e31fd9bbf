use Rattle.ports.specs.Headers.{outputs_by}
use Rattle.design.specs.Lists.{is_in}
use mathlib.Core.Bool.{Bool}
use Rattle.joblines.specs.Sections.{ports_in}
use Rattle.jobindex.specs.Index.{section}
use Prim.Native.Nat.{◌-◌}
use mathlib.Core.Path.{◌≡◌}
use Rattle.ports.proofs.header.is_output.Given as goal

abbrev pub invariant-loop-port : goal.invariant-loop-port
invariant-loop-port l = is_in l.name (outputs_by Bool.false (ports_in (section l.job l.at l.end))) ≡ is_in l.name (outputs_by l.o (ports_in (section l.job l.i l.end)))

abbrev pub decreases-loop-port : goal.decreases-loop-port
decreases-loop-port l = l.end - l.i
