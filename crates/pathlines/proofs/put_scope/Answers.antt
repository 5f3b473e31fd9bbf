-- `pathlines::put_scope` meets its contract. Assumes nothing.
use Rattle.pathlines.proofs.Writes.{scopes}
use Rattle.pathlines.proofs.put_scope.Goals as goal

pub returns-then-has_parts : goal.returns-then-has_parts
returns-then-has_parts c = search scopes

pub returns : goal.returns
returns c = search scopes
