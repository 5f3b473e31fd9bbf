use Rattle.out.specs.Emit.{emit}
use Rattle.out.specs.Text.{shown, SameRoom}
use Rattle.out.specs.Fill.{fill, arg}
use Rattle.out.specs.Marks.{Fills}
use Prim.Native.Nat.{◌-◌}
use lib.ListN.{length}
use Rattle.out.proofs.emit.Text.write.Given as goal

abbrev pub invariant-loop-i : goal.invariant-loop-i
invariant-loop-i l = SameRoom l.initial.self l.self × Fills (arg l.a l.b l.c l.d l.e) l.t (emit (shown l.initial.self) (fill l.t l.a l.b l.c l.d l.e)) (shown l.self) l.i

abbrev pub decreases-loop-i : goal.decreases-loop-i
decreases-loop-i l = length l.t - l.i
