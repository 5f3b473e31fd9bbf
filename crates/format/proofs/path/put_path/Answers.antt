-- `format::path::put_path` meets its contract. Assumes nothing.
use Rattle.format.proofs.Scopes.{leads}
use Rattle.format.proofs.path.put_path.Goals as goal

pub returns-in_default : goal.returns-in_default
returns-in_default c = search leads

pub returns-in-Some : goal.returns-in-Some
returns-in-Some c = search leads
