use mathlib.Core.Path.{refl}
use borrow.Author.Rules.{rules}
use Rattle.entries.proofs.Scans.{scan_end, scan_stop, scan_step}
use Rattle.entries.proofs.scan.scan.Goals as goal

pub loop-i-init : goal.loop-i-init
loop-i-init c = (search rules, (search rules, (search rules, record { keeps = refl })))

pub loop-i-preserved : goal.loop-i-preserved
loop-i-preserved c = (search rules, (search rules, (search rules, search scan_step)))

pub returns-then-d-eq0 : goal.returns-then-d-eq0
returns-then-d-eq0 c = search scan_stop

pub returns : goal.returns
returns c = search scan_end
