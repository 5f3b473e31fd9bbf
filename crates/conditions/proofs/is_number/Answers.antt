-- `conditions::is_number` meets its contract. Assumes nothing.
use Rattle.conditions.proofs.Words.{digits}
use Rattle.conditions.proofs.is_number.Goals as goal

pub returns-then-not-is_digit : goal.returns-then-not-is_digit
returns-then-not-is_digit c = search digits

pub loop-k-preserved : goal.loop-k-preserved
loop-k-preserved c = search digits
