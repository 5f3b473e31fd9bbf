-- `scopes::target::moved` meets its contract. Assumes nothing.
use Rattle.scopes.proofs.Targets.{moves}
use Rattle.scopes.proofs.target.moved.Goals as goal

pub returns-then-is : goal.returns-then-is
returns-then-is c = search moves

pub returns-then-size-eq0 : goal.returns-then-size-eq0
returns-then-size-eq0 c = search moves

pub returns-then-is-2 : goal.returns-then-is-2
returns-then-is-2 c = search moves

pub returns : goal.returns
returns c = search moves
