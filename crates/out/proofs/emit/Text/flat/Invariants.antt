use mathlib.Core.Path.{◌≡◌}
use lib.ListN.{drop}
use Rattle.out.specs.Emit.{emit}
use Rattle.out.specs.Text.{shown, SameRoom}
use Rattle.out.specs.Bytewise.{becomes, flat}
use Rattle.out.proofs.emit.Text.flat.Given as goal

abbrev pub invariant-loop-b : goal.invariant-loop-b
invariant-loop-b l = SameRoom l.initial.self l.self
    × (emit (shown l.self) (flat (becomes l.m) (drop l.b-index l.piece)) ≡ emit (shown l.initial.self) (flat (becomes l.m) l.piece))
