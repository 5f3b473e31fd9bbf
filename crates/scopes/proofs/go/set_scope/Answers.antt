-- `scopes::go::set_scope` meets its contract. Assumes nothing.
use Rattle.scopes.proofs.Gone.{scopings}
use Rattle.scopes.proofs.go.set_scope.Goals as goal

pub go-requires : goal.go-requires
go-requires c = search scopings
