use Rattle.text.specs.Scans.{scans}
use Rattle.out.proofs.template.run_end_each.Goals as goal

pub returns-then-is_brace : goal.returns-then-is_brace
returns-then-is_brace c = search scans

pub loop-i-preserved : goal.loop-i-preserved
loop-i-preserved c = search scans

pub returns : goal.returns
returns c = search scans
