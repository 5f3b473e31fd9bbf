use Prim.Native.Nat.{◌-◌}
use mathlib.Core.List.{◌++◌}
use Rattle.refs.specs.Text.{text_of}
use Rattle.actual.proofs.Turns.{Deciding}
use Rattle.actual.proofs.output_actual.Given as goal

abbrev pub invariant-loop-conn : goal.invariant-loop-conn
invariant-loop-conn l = Deciding l.index.job.now l.index.rows.now l.next l.end l.sub (text_of l.index.job.now (l.mem.files.now ++ l.mem.area.now) l.port) l.pe l.p l.at l.star

abbrev pub decreases-loop-conn : goal.decreases-loop-conn
decreases-loop-conn l = l.end - l.at
