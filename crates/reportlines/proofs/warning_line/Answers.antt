-- `reportlines::warning_line` meets its contract. Assumes nothing.
use Rattle.reportlines.proofs.Warnings.{warn_3, warn_4, warn_5, warn_6, warn_7, warn_8}
use Rattle.reportlines.proofs.warning_line.Goals as goal

pub returns-then-kind-eq3 : goal.returns-then-kind-eq3
returns-then-kind-eq3 c = search warn_3

pub returns-then-kind-eq4 : goal.returns-then-kind-eq4
returns-then-kind-eq4 c = search warn_4

pub returns-then-kind-eq5 : goal.returns-then-kind-eq5
returns-then-kind-eq5 c = search warn_5

pub returns-then-kind-eq6 : goal.returns-then-kind-eq6
returns-then-kind-eq6 c = search warn_6

pub returns-then-kind-eq7 : goal.returns-then-kind-eq7
returns-then-kind-eq7 c = search warn_7

pub returns : goal.returns
returns c = search warn_8
