-- `checks::insert` meets its contract. Assumes nothing.
use Rattle.checks.proofs.Inserts.{inserted_by}
use Rattle.checks.proofs.insert.Goals as goal

pub returns : goal.returns
returns c = inserted_by _ _ _ _ _ c.requires.0 c.requires.1 c.rotate_right.ensures.after
