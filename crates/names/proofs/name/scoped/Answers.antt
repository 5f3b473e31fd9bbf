-- `names::name::scoped` meets its contract. Assumes nothing.
use Rattle.names.proofs.Firsts.{scopes}
use Rattle.names.proofs.name.scoped.Goals as goal

pub returns-in-Some : goal.returns-in-Some
returns-in-Some c = search scopes
