-- `plaincmds::is_query` meets its contract. Assumes nothing.
use Rattle.plaincmds.proofs.Laws.{plain}
use Rattle.plaincmds.proofs.is_query.Goals as goal

pub returns : goal.returns
returns c = search plain
