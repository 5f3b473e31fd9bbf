use Rattle.substitution.proofs.Names.{plains}
use Rattle.substitution.proofs.variable.is_name.Goals as goal

pub returns : goal.returns
returns c = search plains
