-- `format::path::put_parts` meets its contract: what is left of the parts is written behind what was. Assumes nothing.
use Prim.Native.Nat.{◌-◌}
use lib.ListN.{length}
use Rattle.out.specs.Bytewise.{flat, becomes}
use Rattle.out.specs.Emit.{emit}
use Rattle.out.specs.Text.{shown, SameRoom}
use Rattle.scope.specs.Parts.{parts}
use Rattle.format.specs.Args.{led}
use Rattle.format.proofs.Scopes.{Leads}
use Rattle.format.proofs.path.put_parts.Given as goal

abbrev pub invariant-loop-p : goal.invariant-loop-p
invariant-loop-p l = SameRoom l.initial.to l.to × Leads (becomes l.m) l.sep l.dots l.scope.over.now (emit (shown l.initial.to) (flat (becomes l.m) (led l.sep l.dots (parts l.scope.over.now l.scope.from)))) (shown l.to) l.i

abbrev pub decreases-loop-p : goal.decreases-loop-p
decreases-loop-p l = length l.scope.over.now - l.i
