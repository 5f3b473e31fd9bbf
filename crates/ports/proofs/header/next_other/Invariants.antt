-- `ports::header::next_other` meets its contract. Assumes nothing.
use mathlib.Core.Bool.{Bool}
use Rattle.joblines.specs.Sections.{ports_in}
use Rattle.jobindex.specs.Index.{section}
use Rattle.ports.specs.Headers.{others_by}
use Prim.Native.Nat.{◌-◌}
use mathlib.Core.Path.{◌≡◌}
use Rattle.ports.proofs.header.next_other.Given as goal

abbrev pub invariant-loop-port : goal.invariant-loop-port
invariant-loop-port l = others_by Bool.false (ports_in (section l.job l.at l.end)) ≡ others_by l.o (ports_in (section l.job l.i l.end))

abbrev pub decreases-loop-port : goal.decreases-loop-port
decreases-loop-port l = l.end - l.i
