use Rattle.std.specs.Prelude.{◌≤◌}
use Rattle.text.proofs.Digits.{Left}
use Rattle.text.proofs.number.number.Given as goal

abbrev pub invariant-loop-d : goal.invariant-loop-d
invariant-loop-d l = (l.n ≤ l.most) × Left l.most l.s l.n l.d-index
