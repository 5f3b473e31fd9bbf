-- `scopes::go::go_to` meets its contract. Assumes nothing.
use mathlib.Core.Path.{refl}
use Rattle.scopes.proofs.Gone.{to_over, to_add, to_fits, to_under}
use Rattle.scopes.proofs.go.go_to.Goals as goal

pub returns-then-n-all : goal.returns-then-n-all
returns-then-n-all c =
    to_over c.args.mem.now.files.now c.args.mem.now.area.now c.args.p c.args.t c.requires _ c.size-n.ensures c.if-n-all.true

pub narrow-requires : goal.narrow-requires
narrow-requires c =
    to_fits c.args.mem.now.files.now c.args.mem.now.area.now c.args.p c.args.t c.requires

pub overflow_add-result : goal.overflow_add-result
overflow_add-result c =
    record { fits = to_add c.args.mem.now.files.now c.args.mem.now.area.now c.args.p c.args.t c.requires _ c.size-n.ensures c.if-n-all.false }

pub returns : goal.returns
returns c =
    to_under c.args.mem.now.files.now c.args.mem.now.area.now c.args.p c.args.t c.requires _ c.size-n.ensures c.if-n-all.false _ c.narrow.ensures
