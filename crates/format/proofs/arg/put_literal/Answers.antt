-- `format::arg::put_literal` meets its contract. Assumes nothing.
use Rattle.format.proofs.Arguments.{lits}
use Rattle.format.proofs.arg.put_literal.Goals as goal

pub returns-in-BitZero : goal.returns-in-BitZero
returns-in-BitZero c = search lits

pub returns-in-BitOne : goal.returns-in-BitOne
returns-in-BitOne c = search lits

pub returns-in-Zero : goal.returns-in-Zero
returns-in-Zero c = search lits

pub returns-in-One : goal.returns-in-One
returns-in-One c = search lits

pub returns-in-Z : goal.returns-in-Z
returns-in-Z c = search lits

pub returns-in-High : goal.returns-in-High
returns-in-High c = search lits
