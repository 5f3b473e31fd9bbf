-- `scopes::target::rooted` meets its contract. Assumes nothing.
use Rattle.scopes.proofs.Targets.{roots}
use Rattle.scopes.proofs.target.rooted.Goals as goal

pub overflow_add-result : goal.overflow_add-result
overflow_add-result c = let h = c.in_ok-b.was in search roots

pub returns-then-b-ne47 : goal.returns-then-b-ne47
returns-then-b-ne47 c = let h = c.in_ok-b.was in search roots

pub overflow_sub-result : goal.overflow_sub-result
overflow_sub-result c = let h = c.in_ok-b.was in search roots

pub returns : goal.returns
returns c = let h = c.in_ok-b.was in search roots

pub returns-in_err-b : goal.returns-in_err-b
returns-in_err-b c = search roots
