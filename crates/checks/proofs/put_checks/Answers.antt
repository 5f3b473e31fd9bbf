use mathlib.Core.Path.{refl}
use borrow.Author.Rules.{rules}
use Rattle.checks.proofs.Loops.{writes}
use Rattle.checks.proofs.put_checks.Goals as goal

pub loop-k-init : goal.loop-k-init
loop-k-init c = (refl, record { known = search rules; keeps = refl })

pub loop-k-preserved : goal.loop-k-preserved
loop-k-preserved c = (search rules, search writes)

pub put_check-requires : goal.put_check-requires
put_check-requires c = search writes

pub returns : goal.returns
returns c = search writes
