-- `refs::put_stream` meets its contract: what is left is written behind what was. Assumes nothing.
use mathlib.Core.Path.{◌≡◌}
use Rattle.out.specs.Bytewise.{flat, becomes}
use Rattle.out.specs.Emit.{emit}
use Rattle.out.specs.Text.{shown, SameRoom}
use Rattle.refs.specs.Text.{as_dots}
use Rattle.refs.specs.Stream.{left_of}
use Rattle.refs.proofs.put_stream.Given as goal

abbrev pub invariant-loop-b : goal.invariant-loop-b
invariant-loop-b l = SameRoom l.initial.to l.to × (emit (shown l.to) (flat (becomes l.m) (as_dots l.dots (left_of l.b-iterator))) ≡ emit (shown l.initial.to) (flat (becomes l.m) (as_dots l.dots (left_of l.initial.b-iterator))))
