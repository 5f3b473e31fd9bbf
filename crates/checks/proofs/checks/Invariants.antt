-- `checks::checks` meets its contract: those of the ports from row k on are sorted. Assumes nothing.
use mathlib.Core.List.{◌++◌}
use Rattle.checks.specs.Soles.{SoleSeen}
use Rattle.checks.proofs.Loops.{Gathers}
use Rattle.checks.proofs.checks.Given as goal

abbrev pub invariant-loop-k : goal.invariant-loop-k
invariant-loop-k l = SoleSeen (l.mem.files.now ++ l.mem.area.now) l.t l.domain l.own × Gathers (l.mem.files.now ++ l.mem.area.now) l.t l.domain l.ports.rows.now l.ports.n l.initial.found l.found l.m l.k l.s

abbrev pub decreases-loop-k : goal.decreases-loop-k
decreases-loop-k l = l.k
