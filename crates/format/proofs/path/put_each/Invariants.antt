-- `format::path::put_each` meets its contract: what is left of the slice is written behind what was. Assumes nothing.
use Rattle.out.specs.Bytewise.{flat, becomes}
use Rattle.out.specs.Emit.{emit}
use Rattle.out.specs.Text.{shown, SameRoom}
use Rattle.refs.specs.Text.{as_dots}
use Rattle.format.proofs.Scopes.{Slices}
use Rattle.format.proofs.path.put_each.Given as goal

abbrev pub invariant-loop-b : goal.invariant-loop-b
invariant-loop-b l = SameRoom l.initial.to l.to × Slices (becomes l.m) l.dots l.p (emit (shown l.initial.to) (flat (becomes l.m) (as_dots l.dots l.p))) (shown l.to) l.b-index
