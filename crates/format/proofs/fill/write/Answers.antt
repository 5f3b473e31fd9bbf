use native.Mathlib.Omega.{arith}
use mathlib.Core.List.{◌++◌}
use mathlib.Core.Path.{refl, ◌∙◌}
use borrow.Author.Rules.{rules}
use Rattle.out.specs.Marks.{fills_start, fills_turn, fills_less, fills_done}
use Rattle.scope.specs.Parts.{parts}
use Rattle.format.specs.Args.{arg_of}
use Rattle.format.proofs.Letters.{turn_none, turn_arg, mark_low}
use Rattle.format.proofs.fill.write.Goals as goal

pub loop-i-init : goal.loop-i-init
loop-i-init c = search (rules, fills_start)

pub loop-i-smaller-in_default : goal.loop-i-smaller-in_default
loop-i-smaller-in_default c = fills_less _ _ _ _ c.loop-i-test.true c.run_end-z.ensures c.mark_end-i.ensures

pub loop-i-preserved-in_default : goal.loop-i-preserved-in_default
loop-i-preserved-in_default c = (c.brace.ensures.0 ∙ c.put.ensures.0 ∙ c.loop-i.invariant.0, fills_turn (arg_of c.args.src.now.design.index.job.now (c.args.src.now.mem.files.now ++ c.args.src.now.mem.area.now) (parts c.args.src.now.scope.over.now c.args.src.now.scope.from) c.args.src.now.top.now c.args.a) (arg_of c.args.src.now.design.index.job.now (c.args.src.now.mem.files.now ++ c.args.src.now.mem.area.now) (parts c.args.src.now.scope.over.now c.args.src.now.scope.from) c.args.src.now.top.now c.args.b) (arg_of c.args.src.now.design.index.job.now (c.args.src.now.mem.files.now ++ c.args.src.now.mem.area.now) (parts c.args.src.now.scope.over.now c.args.src.now.scope.from) c.args.src.now.top.now c.args.c) (arg_of c.args.src.now.design.index.job.now (c.args.src.now.mem.files.now ++ c.args.src.now.mem.area.now) (parts c.args.src.now.scope.over.now c.args.src.now.scope.from) c.args.src.now.top.now c.args.d) (arg_of c.args.src.now.design.index.job.now (c.args.src.now.mem.files.now ++ c.args.src.now.mem.area.now) (parts c.args.src.now.scope.over.now c.args.src.now.scope.from) c.args.src.now.top.now c.args.e) c.args.t.now _ _ _ _ _ _ _ _ c.loop-i.invariant.1 (turn_none c.args.src.now.design.index.job.now (c.args.src.now.mem.files.now ++ c.args.src.now.mem.area.now) (parts c.args.src.now.scope.over.now c.args.src.now.scope.from) c.args.src.now.top.now c.args.a c.args.b c.args.c c.args.d c.args.e c.args.t.now _ _ _ _ c.mark.ensures c.brace.ensures.1 c.in_default.is) c.put.ensures.1 refl c.run_end-z.ensures c.mark_end-i.ensures)

pub offset_bounds-all-j : goal.offset_bounds-all-j
offset_bounds-all-j c = omega (arith, mark_low _ _ _ _ c.mark.ensures c.in-Some.is)

pub bounds-all-j : goal.bounds-all-j
bounds-all-j c = mark_low _ _ _ _ c.mark.ensures c.in-Some.is

pub loop-i-smaller : goal.loop-i-smaller
loop-i-smaller c = fills_less _ _ _ _ c.loop-i-test.true c.run_end-z.ensures c.mark_end-i.ensures

pub loop-i-preserved : goal.loop-i-preserved
loop-i-preserved c = (c.put-in-loop-i.ensures.0 ∙ c.put.ensures.0 ∙ c.loop-i.invariant.0, fills_turn (arg_of c.args.src.now.design.index.job.now (c.args.src.now.mem.files.now ++ c.args.src.now.mem.area.now) (parts c.args.src.now.scope.over.now c.args.src.now.scope.from) c.args.src.now.top.now c.args.a) (arg_of c.args.src.now.design.index.job.now (c.args.src.now.mem.files.now ++ c.args.src.now.mem.area.now) (parts c.args.src.now.scope.over.now c.args.src.now.scope.from) c.args.src.now.top.now c.args.b) (arg_of c.args.src.now.design.index.job.now (c.args.src.now.mem.files.now ++ c.args.src.now.mem.area.now) (parts c.args.src.now.scope.over.now c.args.src.now.scope.from) c.args.src.now.top.now c.args.c) (arg_of c.args.src.now.design.index.job.now (c.args.src.now.mem.files.now ++ c.args.src.now.mem.area.now) (parts c.args.src.now.scope.over.now c.args.src.now.scope.from) c.args.src.now.top.now c.args.d) (arg_of c.args.src.now.design.index.job.now (c.args.src.now.mem.files.now ++ c.args.src.now.mem.area.now) (parts c.args.src.now.scope.over.now c.args.src.now.scope.from) c.args.src.now.top.now c.args.e) c.args.t.now _ _ _ _ _ _ _ _ c.loop-i.invariant.1 (turn_arg c.args.src.now.design.index.job.now (c.args.src.now.mem.files.now ++ c.args.src.now.mem.area.now) (parts c.args.src.now.scope.over.now c.args.src.now.scope.from) c.args.src.now.top.now c.args.a c.args.b c.args.c c.args.d c.args.e c.args.t.now _ _ _ _ c.mark.ensures _ _ _ c.put-in-loop-i.ensures.1 c.in-Some.is) c.put.ensures.1 refl c.run_end-z.ensures c.mark_end-i.ensures)

pub returns : goal.returns
returns c = search fills_done
