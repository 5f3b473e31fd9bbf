use mathlib.Core.Path.{refl}
use borrow.Author.Rules.{rules}
use Rattle.domainwarnings.proofs.Tells.{among_start, among_next, among_done, one_low}
use Rattle.domainwarnings.proofs.missing_among.Goals as goal

pub loop-i-init : goal.loop-i-init
loop-i-init c = (refl, (search rules, (search rules, search among_start)))

pub loop-i-preserved : goal.loop-i-preserved
loop-i-preserved c = (search rules, (search rules, (search one_low, search among_next)))

pub returns : goal.returns
returns c = search among_done
