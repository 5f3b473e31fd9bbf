use Rattle.ports.specs.Headers.{outputs_by}
use Rattle.lines.specs.Steps.{Passed}
use Rattle.joblines.specs.Sections.{ports_in}
use Rattle.jobindex.specs.Index.{section}
use Prim.Native.Nat.{◌-◌}
use mathlib.Core.Path.{◌≡◌}
use Rattle.ports.proofs.header.next_output.Given as goal

abbrev pub invariant-loop-port : goal.invariant-loop-port
invariant-loop-port l = Passed l.job l.at l.i × (outputs_by l.out (ports_in (section l.job l.at l.end)) ≡ outputs_by l.o (ports_in (section l.job l.i l.end)))

abbrev pub decreases-loop-port : goal.decreases-loop-port
decreases-loop-port l = l.end - l.i
