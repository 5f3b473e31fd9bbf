use mathlib.Core.Path.{refl}
use borrow.Author.Rules.{rules}
use Rattle.substitution.proofs.Names.{looks}
use Rattle.substitution.proofs.variable.last.Goals as goal

pub loop-k-init : goal.loop-k-init
loop-k-init c = (search rules, record { keeps = refl })

pub returns-then-is_name : goal.returns-then-is_name
returns-then-is_name c = search looks

pub loop-k-preserved : goal.loop-k-preserved
loop-k-preserved c = search looks

pub returns : goal.returns
returns c = search looks
