-- `domaincmds::domain` meets its contract. Assumes nothing.
use Rattle.domaincmds.proofs.Laws.{domains}
use Rattle.domaincmds.proofs.domain.Goals as goal

pub narrow-requires : goal.narrow-requires
narrow-requires c = search domains

pub or_empty-requires : goal.or_empty-requires
or_empty-requires c = search domains

pub returns : goal.returns
returns c = search domains
