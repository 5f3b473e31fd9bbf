-- `scopes::go::load_scope` meets its contract. Assumes nothing.
use Rattle.scopes.proofs.Gone.{load_aims, load_moves}
use Rattle.scopes.proofs.go.load_scope.Goals as goal

pub go-requires : goal.go-requires
go-requires c =
    load_aims c.args.files.now c.args.area.now c.args.command.now.rows.now c.args.command.now.n c.args.p c.requires _ c.from-scope.ensures _ c.option.ensures _ c.in-Some.is _ c.entered-t.ensures

pub returns : goal.returns
returns c =
    load_moves c.args.files.now c.args.area.now c.args.command.now.rows.now c.args.command.now.n c.args.p c.requires _ c.from-scope.ensures _ c.option.ensures _ c.in-Some.is _ c.entered-t.ensures _ _ c.go.ensures
