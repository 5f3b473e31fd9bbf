-- `scopes::target::entered` meets its contract. Assumes nothing.
use Rattle.scopes.proofs.Targets.{enters}
use Rattle.scopes.proofs.target.entered.Goals as goal

pub returns-then-is : goal.returns-then-is
returns-then-is c = search enters

pub returns-then-is-2 : goal.returns-then-is-2
returns-then-is-2 c = search enters

pub returns : goal.returns
returns c = search enters
