-- `substitution::variable::name_of` meets its contract. Assumes nothing.
use Rattle.substitution.proofs.Names.{storeds}
use Rattle.substitution.proofs.variable.name_of.Goals as goal

pub returns-then-vars-k : goal.returns-then-vars-k
returns-then-vars-k c = search storeds

pub overflow_mul-k : goal.overflow_mul-k
overflow_mul-k c = search storeds

pub pair-requires : goal.pair-requires
pair-requires c = search storeds

pub returns : goal.returns
returns c = search storeds
