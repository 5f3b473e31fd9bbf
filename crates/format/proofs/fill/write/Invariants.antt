-- `format::fill::write` meets its contract: what is left of the template is written behind what was. Assumes nothing.
use Prim.Native.Nat.{◌-◌}
use mathlib.Core.List.{◌++◌}
use mathlib.Core.Path.{◌≡◌}
use lib.ListN.{length}
use Rattle.out.specs.Emit.{emit}
use Rattle.out.specs.Text.{shown, SameRoom}
use Rattle.out.specs.Fill.{fill}
use Rattle.out.specs.Marks.{Fills}
use Rattle.scope.specs.Parts.{parts}
use Rattle.format.specs.Args.{arg_of, letters}
use Rattle.format.proofs.fill.write.Given as goal

abbrev pub invariant-loop-i : goal.invariant-loop-i
invariant-loop-i l = SameRoom l.initial.to l.to × Fills (letters l.src.design.index.job.now (l.src.mem.files.now ++ l.src.mem.area.now) (parts l.src.scope.over.now l.src.scope.from) l.src.top.now l.fn.a l.fn.b l.fn.c l.fn.d l.fn.e) l.t (emit (shown l.initial.to) (fill l.t (arg_of l.src.design.index.job.now (l.src.mem.files.now ++ l.src.mem.area.now) (parts l.src.scope.over.now l.src.scope.from) l.src.top.now l.fn.a) (arg_of l.src.design.index.job.now (l.src.mem.files.now ++ l.src.mem.area.now) (parts l.src.scope.over.now l.src.scope.from) l.src.top.now l.fn.b) (arg_of l.src.design.index.job.now (l.src.mem.files.now ++ l.src.mem.area.now) (parts l.src.scope.over.now l.src.scope.from) l.src.top.now l.fn.c) (arg_of l.src.design.index.job.now (l.src.mem.files.now ++ l.src.mem.area.now) (parts l.src.scope.over.now l.src.scope.from) l.src.top.now l.fn.d) (arg_of l.src.design.index.job.now (l.src.mem.files.now ++ l.src.mem.area.now) (parts l.src.scope.over.now l.src.scope.from) l.src.top.now l.fn.e))) (shown l.to) l.i

abbrev pub decreases-loop-i : goal.decreases-loop-i
decreases-loop-i l = length l.t - l.i
