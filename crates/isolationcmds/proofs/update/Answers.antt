-- A strategy changed. Assumes nothing.
use Rattle.isolationcmds.proofs.Laws.{updates}
use Rattle.isolationcmds.proofs.update.Goals as goal

pub returns-in-Some : goal.returns-in-Some
returns-in-Some c = search updates

pub returns-in-Some-2 : goal.returns-in-Some-2
returns-in-Some-2 c = search updates

pub returns-in-None : goal.returns-in-None
returns-in-None c = search updates
