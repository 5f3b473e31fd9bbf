-- `clamps::put_lowered` meets its contract: what is left is written behind what was. Assumes nothing.
use mathlib.Core.List.{◌++◌}
use mathlib.Core.Path.{◌≡◌}
use lib.ListN.{length}
use Rattle.out.specs.Emit.{emit}
use Rattle.out.specs.Text.{shown, SameRoom}
use Rattle.names.specs.Name.{name_of}
use Rattle.texts.specs.Isolation.{lowered}
use Rattle.clamps.proofs.Streams.{Puts}
use Rattle.clamps.proofs.put_lowered.Given as goal

abbrev pub invariant-loop-b : goal.invariant-loop-b
invariant-loop-b l = SameRoom l.initial.to l.to × Puts (l.mem.files.now ++ l.mem.area.now) (emit (shown l.initial.to) (lowered (name_of (l.mem.files.now ++ l.mem.area.now) l.initial.x))) (shown l.to) l.x

abbrev pub decreases-loop-b : goal.decreases-loop-b
decreases-loop-b l = length (name_of (l.mem.files.now ++ l.mem.area.now) l.x)
