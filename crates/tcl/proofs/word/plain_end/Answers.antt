use Rattle.std.specs.Prelude.{◌≤◌, length}
use Rattle.std.proofs.Common.{arith}
use Rattle.text.specs.Scans.{scans}
use Rattle.tcl.proofs.Sizes.{plain_all}
use Rattle.tcl.proofs.word.plain_end.Goals as goal

pub loop-i-init : goal.loop-i-init
loop-i-init c = search scans

pub returns-then-ends_plain : goal.returns-then-ends_plain
returns-then-ends_plain c = search scans

pub loop-i-preserved : goal.loop-i-preserved
loop-i-preserved c = search scans

pub returns : goal.returns
returns c = let h : c.loop-i.i ≤ length c.args.s.now = omega arith in search plain_all
