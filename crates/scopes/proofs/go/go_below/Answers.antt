-- `scopes::go::go_below` meets its contract: the scope, a slash and the name are written from the area's end on. Assumes nothing.
use mathlib.Core.Path.{refl, ◌∙◌}
use lib.ListN.{length-set}
use Rattle.scopes.proofs.Gone.{aims_count, up_to_lem, below_root, scope_add, both_add, below_over, below_room, first_room, slash_in_lem, slash_add, next_room, scopes_add, below_stored, below_in}
use Rattle.scopes.proofs.go.go_below.Goals as goal

pub slice_bounds-mem-end-2 : goal.slice_bounds-mem-end-2
slice_bounds-mem-end-2 c =
    aims_count c.args.files.now c.args.area.now c.args.p c.args.name _ c.requires

pub go_to-requires : goal.go_to-requires
go_to-requires c =
    up_to_lem c.args.files.now c.args.area.now c.args.p c.requires.space c.args.name c.requires.named

pub returns-then-a-eq0 : goal.returns-then-a-eq0
returns-then-a-eq0 c =
    below_root c.args.files.now c.args.area.now c.args.p c.args.name c.requires _ c.from-scope.ensures _ c.size-a.ensures c.if-a-eq0.true _ c.go_to.ensures

pub overflow_add-n : goal.overflow_add-n
overflow_add-n c =
    record { fits = scope_add c.args.files.now c.args.area.now c.args.p c.args.name c.requires _ c.from-scope.ensures _ c.size-a.ensures }

pub overflow_add-n-2 : goal.overflow_add-n-2
overflow_add-n-2 c =
    record { fits = both_add c.args.files.now c.args.area.now c.args.p c.args.name c.requires _ c.from-scope.ensures _ c.size-a.ensures _ c.size.ensures }

pub returns-then-n-all : goal.returns-then-n-all
returns-then-n-all c =
    below_over c.args.files.now c.args.area.now c.args.p c.args.name c.requires _ c.from-scope.ensures _ c.size-a.ensures c.if-a-eq0.false _ c.size.ensures c.if-n-all.true

pub append_span-m-requires : goal.append_span-m-requires
append_span-m-requires c =
    first_room c.args.files.now c.args.area.now c.args.p c.args.name c.requires _ c.from-scope.ensures _ c.size-a.ensures c.if-a-eq0.false _ c.size.ensures c.if-n-all.false

pub bounds-area-m : goal.bounds-area-m
bounds-area-m c =
    slash_in_lem c.args.files.now c.args.area.now c.args.p.end _ c.args.name (below_room c.args.files.now c.args.area.now c.args.p c.args.name c.requires _ c.from-scope.ensures _ c.size-a.ensures c.if-a-eq0.false _ c.size.ensures c.if-n-all.false) _ _ c.append_span-m.ensures

pub overflow_add-m : goal.overflow_add-m
overflow_add-m c =
    record { fits = slash_add c.args.files.now c.args.area.now c.args.p c.args.name c.requires _ c.from-scope.ensures _ c.size-a.ensures c.if-a-eq0.false _ c.size.ensures c.if-n-all.false _ _ c.append_span-m.ensures }

pub append_span-e-requires : goal.append_span-e-requires
append_span-e-requires c =
    next_room c.args.files.now c.args.area.now c.args.p c.args.name c.requires _ c.from-scope.ensures _ c.size-a.ensures c.if-a-eq0.false _ c.size.ensures c.if-n-all.false _ _ c.append_span-m.ensures

pub narrow-requires : goal.narrow-requires
narrow-requires c =
    below_stored c.args.files.now c.args.area.now c.args.p c.args.name c.requires _ c.from-scope.ensures _ c.size-a.ensures c.if-a-eq0.false _ c.size.ensures c.if-n-all.false

pub overflow_add-result : goal.overflow_add-result
overflow_add-result c =
    record { fits = scopes_add c.args.files.now c.args.area.now c.args.p c.args.name c.requires _ c.from-scope.ensures _ c.size-a.ensures c.if-a-eq0.false _ c.size.ensures c.if-n-all.false }

pub shape_of-area : goal.shape_of-area
shape_of-area c =
    c.append_span-e.auto.area ∙ length-set c.append_span-m.new.area c.append_span-m.result 47 ∙ c.append_span-m.auto.area

pub returns : goal.returns
returns c =
    below_in c.args.files.now c.args.area.now c.args.p c.args.name c.requires _ c.from-scope.ensures _ c.size-a.ensures c.if-a-eq0.false _ c.size.ensures c.if-n-all.false _ _ c.append_span-m.ensures _ _ c.append_span-e.ensures _ c.narrow.ensures
