use mathlib.Core.Path.{◌≡◌}
use lib.ListN.{drop}
use Rattle.out.specs.Emit.{emit}
use Rattle.out.specs.Text.{shown, SameRoom}
use Rattle.out.proofs.emit.Text.put_slow.Given as goal

-- what is still to be written, written from here, is the answer
abbrev pub invariant-loop-b : goal.invariant-loop-b
invariant-loop-b l = SameRoom l.initial.self l.self × (emit (shown l.self) (drop l.b-index l.piece) ≡ emit (shown l.initial.self) l.piece)
