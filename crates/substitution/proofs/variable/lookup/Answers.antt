-- `substitution::variable::lookup` meets its contract. Assumes nothing.
use Rattle.substitution.proofs.Names.{knowns}
use Rattle.substitution.proofs.variable.lookup.Goals as goal

pub returns-then-size-body : goal.returns-then-size-body
returns-then-size-body c = search knowns

pub last-requires : goal.last-requires
last-requires c = search knowns

pub returns : goal.returns
returns c = search knowns
