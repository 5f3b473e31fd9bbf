use Rattle.std.specs.Prelude.{◌≤◌, length}
use Rattle.std.proofs.Common.{arith}
use mathlib.Core.Path.{refl}
use Rattle.tcl.specs.Machines.{span_all, span_stop, span_step}
use Rattle.tcl.proofs.word.quote_end.Goals as goal

pub loop-i-init : goal.loop-i-init
loop-i-init c = record { keeps = refl }

pub returns-then-d-eq0 : goal.returns-then-d-eq0
returns-then-d-eq0 c = search span_stop

pub loop-i-preserved : goal.loop-i-preserved
loop-i-preserved c = search span_step

pub returns : goal.returns
returns c = let h : c.loop-i.i ≤ length c.args.s.now = omega arith in search span_all
