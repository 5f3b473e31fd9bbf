-- `findscope::find_scope` meets its contract. Assumes nothing.
use Rattle.findscope.proofs.Turns.{scoping}
use Rattle.findscope.proofs.find_scope.Goals as goal

pub returns-in-Some : goal.returns-in-Some
returns-in-Some c = search scoping
