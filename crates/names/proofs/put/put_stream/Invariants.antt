-- `names::put::put_stream` meets its contract: what is left is written behind what was. Assumes nothing.
use mathlib.Core.Path.{◌≡◌}
use Rattle.out.specs.Bytewise.{flat, becomes}
use Rattle.out.specs.Emit.{emit}
use Rattle.out.specs.Text.{shown, SameRoom}
use Rattle.names.specs.Stream.{left_of}
use Rattle.names.proofs.put.put_stream.Given as goal

abbrev pub invariant-loop-b : goal.invariant-loop-b
invariant-loop-b l = SameRoom l.initial.to l.to × (emit (shown l.to) (flat (becomes l.m) (left_of l.b-iterator)) ≡ emit (shown l.initial.to) (flat (becomes l.m) (left_of l.initial.b-iterator)))
