-- `findscope::put_way` meets its contract: the names left are written behind those that were. Assumes nothing.
use Rattle.out.specs.Emit.{emit}
use Rattle.out.specs.Text.{shown, SameRoom}
use Rattle.out.specs.Items.{joined}
use Rattle.search.specs.Found.{way_from}
use Rattle.findscope.proofs.Turns.{Writes}
use Rattle.findscope.proofs.put_way.Given as goal

abbrev pub invariant-loop-i : goal.invariant-loop-i
invariant-loop-i l = SameRoom l.initial.to l.to × Writes l.job l.w l.sep (emit (shown l.initial.to) (joined l.sep (way_from l.job 0 l.w))) (shown l.to) l.i
