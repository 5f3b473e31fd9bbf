use Rattle.std.proofs.Common.{◌≡◌, drop}
use Rattle.out.specs.Emit.{emit}
use Rattle.out.specs.Text.{shown, SameRoom}
use Rattle.out.specs.Items.{each}
use Rattle.dump.proofs.table.table.Given as goal

abbrev pub invariant-loop-x : goal.invariant-loop-x
invariant-loop-x g l = SameRoom l.initial.to l.to × (emit (shown l.to) (each g.T.Dumped.text (drop l.x-index l.all)) ≡ emit (shown l.initial.to) (each g.T.Dumped.text l.all))
