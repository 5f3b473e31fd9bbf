-- `loads::before_load` meets its contract. Assumes nothing.
use native.Mathlib.Omega.{arith}
use Rattle.loads.proofs.Before.{end_in_lem, end_count, tells_over, tells_deep, tells_none, tells_one}
use Rattle.loads.proofs.before_load.Goals as goal

pub load_scope-requires : goal.load_scope-requires
load_scope-requires c =
    c.requires.line

pub returns-in_err-q : goal.returns-in_err-q
returns-in_err-q c = tells_over c.args.job.now c.args.files.now c.args.area.now c.args.nums.now c.args.command.now.rows.now c.args.count c.args.command.now.n c.args.k c.args.left c.args.p _ _ c.load_scope.auto.area c.load_scope.ensures _ c.in_err-q.was _ c.from_residual.ensures.1

pub returns-then-left-eq0 : goal.returns-then-left-eq0
returns-then-left-eq0 c = tells_deep c.args.job.now c.args.files.now c.args.area.now c.args.nums.now c.args.command.now.rows.now c.args.count c.args.command.now.n c.args.k c.args.left c.args.p _ _ c.load_scope.auto.area c.load_scope.ensures _ c.in_ok-q.was c.if-left-eq0.true

pub slice_bounds-mem-end : goal.slice_bounds-mem-end
slice_bounds-mem-end c = end_in_lem c.args.files.now c.args.area.now c.args.command.now.rows.now c.args.count c.args.command.now.n c.args.k c.args.p c.requires _ _ c.load_scope.auto.area _ c.in_ok-q.was c.load_scope.ensures

pub slice_bounds-mem-end-2 : goal.slice_bounds-mem-end-2
slice_bounds-mem-end-2 c = end_count c.args.files.now c.args.area.now c.args.command.now.rows.now c.args.count c.args.command.now.n c.args.k c.args.p c.requires _ _ c.load_scope.auto.area _ c.in_ok-q.was c.load_scope.ensures

pub find_file-f-requires : goal.find_file-f-requires
find_file-f-requires c =
    (omega (arith, c.requires.few), omega (arith, c.requires.file, c.requires.few))

pub returns-then-f-count : goal.returns-then-f-count
returns-then-f-count c =
    tells_none c.args.job.now c.args.files.now c.args.area.now c.args.nums.now c.args.command.now.rows.now c.args.count c.args.command.now.n c.args.k c.args.left c.args.p _ _ c.load_scope.auto.area c.load_scope.ensures _ c.in_ok-q.was c.if-left-eq0.false _ c.name-named.ensures _ c.find_file-f.ensures c.if-f-count.true

pub returns : goal.returns
returns c =
    tells_one c.args.job.now c.args.files.now c.args.area.now c.args.nums.now c.args.command.now.rows.now c.args.count c.args.command.now.n c.args.k c.args.left c.args.p _ _ c.load_scope.auto.area c.load_scope.ensures _ c.in_ok-q.was c.if-left-eq0.false _ c.name-named.ensures _ c.find_file-f.ensures c.if-f-count.false
