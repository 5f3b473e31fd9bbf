-- `checks::put_check` meets its contract. Assumes nothing.
use mathlib.Core.List.{◌++◌}
use borrow.Author.Rules.{rules}
use Rattle.scope.specs.Parts.{parts}
use Rattle.out.specs.Emit.{over_written}
use Rattle.checks.proofs.Loops.{check_written}
use Rattle.checks.proofs.put_check.Goals as goal

pub returns : goal.returns
returns c = (c.fill4.ensures.0, check_written c.args.src.now.design.index.job.now (c.args.src.now.mem.files.now ++ c.args.src.now.mem.area.now) (parts c.args.src.now.scope.over.now c.args.src.now.scope.from) c.args.src.now.top.now c.args.t c.args.i c.args.domain _ _ _ _ _ _ c.fill4.ensures.1 c.signal_arg-a.ensures c.active_arg-b.ensures c.name-c.ensures c.strategy_arg-d.ensures)
